use Rattle.timed_calls.specs.Calls.{IsSameSize}
use Rattle.timed_calls.proofs.floors.let_in.Given as goal

abbrev pub invariant-loop-step : goal.invariant-loop-step
invariant-loop-step g l = IsSameSize l.fn.floor l.floor
