use Rattle.std.proofs.Common.{◌≡◌, refl, subst}
use Rattle.monk_history.specs.Meaning.{Counts.events_of, Legal.IsLegal}
use Rattle.monk_floor.specs.View.{FloorView, monitor_of}
use Rattle.monk_hall.proofs.active.Active.history.Goals as goal
use Rattle.monk_hall.specs.Tokens.{Holder}

pub returns-clause-legal : goal.returns-clause-legal
returns-clause-legal g c =
    subst (λ (a : Holder). IsLegal (monitor_of g.K.Kind.rules g.T.Guarded.meaning a.floor) a.floor.history)
    c.self.view_is
    (subst (λ (f : FloorView). IsLegal (monitor_of g.K.Kind.rules g.T.Guarded.meaning f) f.history) c.deref.ensures
    c.history.ensures.legal)

pub returns-clause-own : goal.returns-clause-own
returns-clause-own g c = subst (λ (a : Holder). events_of a.floor.history a.me.seat ≡ a.me.mine) c.self.view_is refl
