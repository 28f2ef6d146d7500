use Rattle.monk_tests.specs.FloorCalls.{IsRoom}
use Rattle.monk_tests.proofs.tests.floor_steps.runs_returning.Given as goal

abbrev pub invariant-loop-event : goal.invariant-loop-event
invariant-loop-event g l = IsRoom l.size.seats l.size.conds 1 l.floor
