use Rattle.std.proofs.{Common.arith, lemmas.Result.IfOk-weaker, lemmas.Grind.common_steps}
use Rattle.monk_commands.proofs.explaining.explained.Goals as goal

pub returns-in-Ok : goal.returns-in-Ok
returns-in-Ok c = grind (arith, common_steps, IfOk-weaker)
