use Rattle.std.proofs.{Common.arith, lemmas.Grind.common_steps}
use Rattle.monk_samples.proofs.crew.round.write.Goals as goal
use Rattle.monk_samples.proofs.{RoundLaws.still_of, VisitLaws.visited_twice}

pub returns-in-Done : goal.returns-in-Done
returns-in-Done g c = grind (arith, common_steps, visited_twice, still_of)

pub returns-in_default : goal.returns-in_default
returns-in_default g c = grind (arith, common_steps)
