use Rattle.std.proofs.Common.{◌≡◌}
use Rattle.timed_calls.proofs.halls.least.Given as goal

abbrev pub invariant-loop : goal.invariant-loop
invariant-loop g l = l.pass.hall ≡ l.hall.id
