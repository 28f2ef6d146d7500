use Rattle.monk_hall.specs.Closing.{IsUnqueued}
use Rattle.monk_hall.proofs.closing.has_queued.Given as goal

abbrev pub invariant-loop-seat : goal.invariant-loop-seat
invariant-loop-seat g l = IsUnqueued g.K.Kind.rules g.T.Guarded.meaning l.floor l.seat
