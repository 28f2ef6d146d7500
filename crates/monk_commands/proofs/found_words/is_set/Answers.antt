use Rattle.std.proofs.{Common.arith, lemmas.Grind.common_steps}
use Rattle.clap.proofs.WalkLemmas.{one_text-rows}
use Rattle.monk_commands.proofs.found_words.is_set.Goals as goal

pub returns : goal.returns
returns c = grind (arith, common_steps, one_text-rows)
