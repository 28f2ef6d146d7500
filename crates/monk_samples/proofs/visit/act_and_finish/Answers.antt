use Rattle.monk_samples.proofs.visit.act_and_finish.Goals as goal
use Rattle.monk_samples.proofs.VisitLaws.{visited}
use Rattle.std.proofs.{lemmas.Grind.common_steps, Common.arith, Common.rules}

pub returns-in-Ok : goal.returns-in-Ok
returns-in-Ok g c = search (rules, visited)

pub returns-in-Err : goal.returns-in-Err
returns-in-Err g c = grind (arith, common_steps)
