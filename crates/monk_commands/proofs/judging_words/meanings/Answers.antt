use Rattle.monk_commands.proofs.judging_words.meanings.Goals as goal
use Rattle.monk_commands.proofs.Requests.{meanings_more}
use Rattle.std.proofs.{lemmas.Grind.common_steps, Common.arith}

pub loop-word-preserved : goal.loop-word-preserved
loop-word-preserved c = grind (arith, common_steps, meanings_more)
