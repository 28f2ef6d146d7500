use Rattle.std.proofs.Common.{take}
use Rattle.monk_world.proofs.world.World.run.Given as goal
use Rattle.monk_world.specs.{Telling.IsLed, WorldViews.state_of_view}

abbrev pub invariant-loop-seat : goal.invariant-loop-seat
invariant-loop-seat g l =
    IsLed g.K.Kind.rules g.T.Guarded.meaning (state_of_view l.fn.self) (take l.seat-index l.commands)
    (state_of_view l.self)
