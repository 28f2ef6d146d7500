use Rattle.std.proofs.{Common.codes, Common.arith, lemmas.Result.IfOk-weaker, lemmas.Grind.common_steps}
use Rattle.clap.proofs.WalkLemmas.{raw_values-rows}
use Rattle.monk_commands.proofs.judging_words.meanings_of.Goals as goal

pub returns-in-Some : goal.returns-in-Some
returns-in-Some c = grind (arith, common_steps, raw_values-rows, codes, IfOk-weaker)

pub returns-in-None : goal.returns-in-None
returns-in-None c = grind (arith, common_steps, raw_values-rows, codes)
