use Rattle.std.proofs.Common.{◌≡◌}
use Rattle.monk_tests.proofs.tests.halls.entering.polls_in_vain.Given as goal

abbrev pub invariant-loop : goal.invariant-loop
invariant-loop l = l.parked.hall ≡ l.hall.id
