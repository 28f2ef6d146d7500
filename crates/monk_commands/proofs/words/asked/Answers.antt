use Rattle.monk_commands.proofs.words.asked.Goals as goal
use Rattle.std.proofs.{lemmas.Grind.common_steps, Common.arith}

pub returns-in-Some : goal.returns-in-Some
returns-in-Some c = grind (arith, common_steps)
