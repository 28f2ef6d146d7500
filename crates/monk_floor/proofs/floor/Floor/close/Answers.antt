use Rattle.std.proofs.Common.{subst, length, ◌≤◌, ◌*◌}
use Rattle.monk_history.specs.Meaning.Legal.{IsLegal}
use Rattle.monk_floor.proofs.floor.Floor.close.Goals as goal
use Rattle.monk_floor.{specs.View.FloorView, specs.View.monitor_of, proofs.KeptLaws.within_budgets}

pub returns-clause-legal : goal.returns-clause-legal
returns-clause-legal g c =
    subst (λ (f : FloorView). IsLegal (monitor_of g.K.Kind.rules g.T.Guarded.meaning f) f.history) c.self.view_is
    c.self.invariant.legal

pub returns-clause-few : goal.returns-clause-few
returns-clause-few g c =
    subst (λ (f : FloorView). length f.history ≤ f.seats * f.budget) c.self.view_is (within_budgets c.self.invariant)
