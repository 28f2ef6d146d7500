use Rattle.std.proofs.{Common.arith, lemmas.Grind.common_steps}
use Rattle.monk_history.proofs.text.header.Header.new.Goals as goal

pub returns : goal.returns
returns c = grind (arith, common_steps)
