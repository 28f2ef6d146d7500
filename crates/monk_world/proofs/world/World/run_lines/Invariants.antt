use Rattle.std.proofs.Common.{length}
use Rattle.monk_world.proofs.world.World.run_lines.Given as goal
use Rattle.monk_world.{specs.WorldViews.state_of_view, proofs.LedLaws.IsLedSoFar}

abbrev pub invariant-loop-told : goal.invariant-loop-told
invariant-loop-told g l =
    IsLedSoFar g.K.Kind.rules g.T.Guarded.meaning (state_of_view l.fn.self) l.play.2 l.fn.play.2 (state_of_view l.self)

abbrev pub decreases-loop-told : goal.decreases-loop-told
decreases-loop-told g l = length l.play.2
