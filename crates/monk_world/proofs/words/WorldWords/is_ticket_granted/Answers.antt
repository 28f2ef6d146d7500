use Rattle.std.proofs.{Common.arith, lemmas.Grind.common_steps}
use Rattle.monk_world.proofs.words.WorldWords.is_ticket_granted.Goals as goal

pub returns : goal.returns
returns c = grind (arith, common_steps)
