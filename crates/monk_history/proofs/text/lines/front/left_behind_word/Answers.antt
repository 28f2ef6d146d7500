use Rattle.std.proofs.Common.{ap, ◌∙◌, arith}
use Rattle.monk_history.proofs.text.lines.front.left_behind_word.Goals as goal
use Rattle.monk_history.{specs.Text.Words.words_of, proofs.TextLaws.NextWords.is_next-other}
use Rattle.std.proofs.lemmas.Grind.{common_steps}

pub returns-in_err-behind : goal.returns-in_err-behind
returns-in_err-behind c = grind (arith, common_steps, is_next-other)

pub returns-in_err-left : goal.returns-in_err-left
returns-in_err-left c = grind (arith, common_steps)

pub returns : goal.returns
returns c = ap words_of c.in_ok-behind.ensures ∙ c.in_ok-left.ensures c.args.word.now c.requires
