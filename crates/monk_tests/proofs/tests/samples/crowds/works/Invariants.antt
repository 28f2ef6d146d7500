use Rattle.monk_tests.specs.Passes.{IsSeat}
use Rattle.monk_tests.proofs.tests.samples.crowds.works.Given as goal

abbrev pub invariant-loop : goal.invariant-loop
invariant-loop g l = IsSeat l.hall.id l.pass
