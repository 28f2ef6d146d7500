use Rattle.std.proofs.{Common.arith, lemmas.Grind.common_steps}
use Rattle.monk_hall.proofs.handing.let_in.Goals as goal
use Rattle.monk_hall.proofs.HandingLaws.{grants_by}

pub returns-then-waiting-eq1-clause-granted : goal.returns-then-waiting-eq1-clause-granted
returns-then-waiting-eq1-clause-granted g c = grind (arith, common_steps, grants_by)

pub returns-clause-granted : goal.returns-clause-granted
returns-clause-granted g c = grind (arith, common_steps, grants_by)
