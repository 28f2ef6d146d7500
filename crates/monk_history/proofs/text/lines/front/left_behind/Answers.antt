use Rattle.std.proofs.{Common.arith, lemmas.List.nil_from_length, lemmas.Grind.common_steps}
use Rattle.monk_history.proofs.text.lines.front.left_behind.Goals as goal
use Rattle.monk_history.proofs.TextLaws.NextWords.{words-last, words-more, is_next-longer}

pub returns-in_default : goal.returns-in_default
returns-in_default c = grind (arith, common_steps, nil_from_length, words-last)

pub returns-then-next-eq32 : goal.returns-then-next-eq32
returns-then-next-eq32 c = grind (arith, common_steps, words-more)

pub returns-else-next-eq32 : goal.returns-else-next-eq32
returns-else-next-eq32 c = grind (arith, common_steps, is_next-longer)
