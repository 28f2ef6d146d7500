use Rattle.std.proofs.{Common.arith, lemmas.Grind.common_steps}
use Rattle.monk_hall.proofs.parked.Parked.poll.Goals as goal

pub returns-in-Due-clause-active : goal.returns-in-Due-clause-active
returns-in-Due-clause-active g c = grind (arith, common_steps)
