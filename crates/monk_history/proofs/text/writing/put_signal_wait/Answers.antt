use Rattle.std.proofs.{Common.arith, lemmas.Grind.common_steps}
use Rattle.monk_history.proofs.text.writing.put_signal_wait.Goals as goal

pub returns-clause-line : goal.returns-clause-line
returns-clause-line c = grind (arith, common_steps)
