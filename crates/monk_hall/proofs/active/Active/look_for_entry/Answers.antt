use Rattle.std.proofs.{Common.arith, lemmas.Grind.common_steps}
use Rattle.monk_hall.proofs.active.Active.look_for_entry.Goals as goal

pub returns-clause-peeked : goal.returns-clause-peeked
returns-clause-peeked g c = grind (arith, common_steps)
