use Rattle.std.proofs.Common.{subst, length, ◌≤◌}
use Rattle.monk_history.specs.{Limits.most_lines, Meaning.Legal.IsLegal}
use Rattle.monk_floor.proofs.floor.Floor.history.Goals as goal
use Rattle.monk_floor.{specs.View.FloorView, specs.View.monitor_of, proofs.KeptLaws.within_lines}

pub returns-clause-legal : goal.returns-clause-legal
returns-clause-legal g c =
    subst (λ (f : FloorView). IsLegal (monitor_of g.K.Kind.rules g.T.Guarded.meaning f) f.history) c.self.view_is
    c.self.invariant.legal

pub returns-clause-few : goal.returns-clause-few
returns-clause-few g c =
    subst (λ (f : FloorView). length f.history ≤ most_lines) c.self.view_is (within_lines c.self.invariant)
