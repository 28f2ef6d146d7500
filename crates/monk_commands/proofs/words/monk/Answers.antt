use Rattle.std.proofs.{Common.rules, lemmas.Result.IfOk-weaker}
use Rattle.monk_commands.proofs.words.monk.Goals as goal

pub returns : goal.returns
returns c = search (rules, IfOk-weaker, rules)
