use Rattle.std.proofs.{Common.codes, Common.arith, lemmas.Grind.common_steps}
use Rattle.clap.proofs.WalkLemmas.{raw_values-rows}
use Rattle.monk_commands.proofs.found_words.files_of.Goals as goal
use Rattle.monk_commands.proofs.Requests.{found_words, texts}

pub returns-in_ok-kept-in-Some : goal.returns-in_ok-kept-in-Some
returns-in_ok-kept-in-Some c = grind (arith, common_steps, found_words, codes, texts)

pub returns-in-None : goal.returns-in-None
returns-in-None c = grind (arith, common_steps, raw_values-rows, codes)
