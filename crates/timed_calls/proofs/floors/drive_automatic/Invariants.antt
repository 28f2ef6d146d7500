use Rattle.timed_calls.specs.Calls.{IsSameSize}
use Rattle.timed_calls.proofs.floors.drive_automatic.Given as goal

abbrev pub invariant-loop : goal.invariant-loop
invariant-loop g l = IsSameSize l.fn.floor l.floor
