use Rattle.std.proofs.Common.{◌≡◌, refl, sym, ap, subst, ◌∙◌}
use Rattle.monk_history.specs.Meaning.{Counts.events_of, Legal.IsLegal}
use Rattle.monk_floor.specs.View.{FloorView, monitor_of}
use Rattle.monk_hall.proofs.active.Active.end.Goals as goal
use Rattle.monk_hall.{specs.Tokens.Holder, proofs.ClosingLaws.ended}

pub returns : goal.returns
returns g c =
    let inv = c.self.invariant in
    let shows = c.into_inner-floor.ensures in
    let legal =
    subst (λ (f : FloorView). IsLegal (monitor_of g.K.Kind.rules g.T.Guarded.meaning f) f.history) (sym shows)
    inv.goes.legal in
    ended g.K.Kind.rules g.T.Guarded.meaning c.args.self c.into_inner-floor.result c.self.inside.numbers.seat
    c.leave.result
    c.leave.new.self c.close-object.result.1.items (g.T.Guarded.state c.close-object.result.0)
    (sym (ap (λ (a : Holder). a.floor) c.self.view_is) ∙ sym shows)
    (sym (ap (λ (a : Holder). a.me.seat) c.self.view_is) ∙ inv.seated.is_seat)
    (subst (λ (a : Holder). events_of a.floor.history a.me.seat ≡ a.me.mine) c.self.view_is refl) legal
    c.requires.unqueued
    c.leave.ensures.grown c.leave.ensures.choice c.close-object.ensures.history c.close-object.ensures.legal
    c.close-object.ensures.object c.close-object.ensures.few
