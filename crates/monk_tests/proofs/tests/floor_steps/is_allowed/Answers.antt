use Rattle.std.proofs.Common.{◌≡◌, ◌∙◌, ap, sym, [], ◌∷◌, ◌++◌, length}
use Rattle.std.proofs.lemmas.Bool.{eqb-true}
use Rattle.monk_object.specs.declared.name.ObjectName.TheVariants.{Buffer}
use Rattle.monk_history.specs.Text.Reading.{first_heading_of}
use Rattle.monk_audit.specs.declared.verdict.Verdict.TheVariants.{Legal}
use Rattle.monk_tests.proofs.Calls.{allowed_on, header_made}
use Rattle.monk_tests.proofs.tests.floor_steps.is_allowed.Goals as goal

pub returns-in-Legal : goal.returns-in-Legal
returns-in-Legal g c y =
    let size = c.args.size in
    let events = c.as_slice-events.result.now in
    let grown : events ≡ c.args.floor.now.history ++ c.args.event ∷ [] =
    c.as_slice-events.ensures.value ∙ (c.in_ok-push.ensures.items
    ∙ ap (λ xs. xs ++ c.args.event ∷ []) (c.in_ok-grown.ensures.items ∙ c.history.ensures.history)) in
    let many : c.in-Legal.count ≡ length events = eqb-true _ _ y in
    let is =
    header_made g.K.Kind.NAME size.seats size.conds 1 c.in-Some.header
    (ap (λ n. first_heading_of n size.seats size.conds Buffer 1) (sym c.NAME.ensures) ∙ sym c.new.ensures
    ∙ c.in-Some.is) in
    allowed_on g.K.Kind.rules g.K.Kind.NAME size.seats size.conds 1 c.in-Some.header c.args.floor.now
    c.args.event events is
    g.K.Kind.are_named c.requires grown (c.in_ok-count.ensures.legal.0 (c.in-Legal.is ∙ ap Legal many))
