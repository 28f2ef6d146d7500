use Rattle.std.proofs.Common.{◌≡◌, [], ◌∷◌, length, ap, subst, sym, ◌∙◌}
use Rattle.monk_kinds.specs.declared.name.KindName.TheVariants.{Pb}
use Rattle.monk_object.specs.declared.name.ObjectName.TheVariants.{Buffer}
use Rattle.monk_history.specs.Meaning.Named as named
use Rattle.monk_history.specs.{Text.heading, Meaning.Legal.IsLegal}
use Rattle.monk_floor.{specs.Headed.IsHeadedBy, proofs.PublicLaws.legal_as_headed}
use Rattle.first_monitor.proofs.audited.Goals as goal

pub returns : goal.returns
returns c =
    let setting = ap (λ r. r.setting) c.arrive.ensures.me ∙ c.requires.setting in
    let floor = c.in-Ok.ensures.active.0.floor in
    let opening : c.in-Ok.active.floor.opening ≡ 1 ∷ [] = ap (λ f. f.opening) floor ∙ ap (λ s. s.opening) setting in
    let seats : c.in-Ok.active.floor.seats ≡ 3 = ap (λ f. f.seats) floor ∙ ap (λ s. s.seats) setting in
    let conds : c.in-Ok.active.floor.conds ≡ 2 = ap (λ f. f.conds) floor ∙ ap (λ s. s.conds) setting in
    let history = c.in-Ok-close.closed.history.items in
    let headed : IsHeadedBy c.in-Ok.active.floor (heading 1 Pb 3 2 Buffer 1) =
    record { opening = opening; seats = seats; conds = conds } in
    let legal =
    legal_as_headed (heading 1 Pb 3 2 Buffer 1) c.in-Ok.active.floor history headed
    c.in-Ok-close.ensures.ended.legal in
    let is_legal = subst (λ h. IsLegal (named.named_monitor h) history) (sym c.header.ensures) legal in
    (length history, (rw c.deref.ensures.value at c.in_ok-audit.ensures.legal).1 is_legal)
