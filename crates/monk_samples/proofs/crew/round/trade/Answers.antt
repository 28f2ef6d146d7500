use Rattle.std.proofs.{Common.arith, lemmas.Grind.common_steps}
use Rattle.monk_samples.proofs.crew.round.trade.Goals as goal

pub returns-in-Patient-clause-visited : goal.returns-in-Patient-clause-visited
returns-in-Patient-clause-visited g c = grind (arith, common_steps)

pub returns-in-Hasty-clause-visited : goal.returns-in-Hasty-clause-visited
returns-in-Hasty-clause-visited g c = grind (arith, common_steps)
