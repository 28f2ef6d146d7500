use Rattle.std.proofs.{Common.arith, lemmas.Grind.common_steps}
use Rattle.monk_commands.proofs.answer.unreadable.Goals as goal

pub returns : goal.returns
returns c = grind (arith, common_steps)
