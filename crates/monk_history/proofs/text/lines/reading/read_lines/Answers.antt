use Rattle.std.proofs.{lemmas.Result.err_from_is_err_and, lemmas.Grind.common_steps, Common.arith}
use Rattle.monk_history.proofs.text.lines.reading.read_lines.Goals as goal
use Rattle.monk_history.proofs.TextLaws.LineSteps.{not_opened, no_items, both_parts}

pub returns-in_err-header : goal.returns-in_err-header
returns-in_err-header g c = grind (arith, common_steps, err_from_is_err_and, not_opened)

pub returns-in_err-items : goal.returns-in_err-items
returns-in_err-items g c = grind (arith, common_steps, err_from_is_err_and, no_items)

pub returns : goal.returns
returns g c = grind (arith, common_steps, both_parts)
