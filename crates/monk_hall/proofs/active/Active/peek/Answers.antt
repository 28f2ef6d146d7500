use Rattle.monk_hall.proofs.active.Active.peek.Goals as goal
use Rattle.std.proofs.{lemmas.Grind.common_steps, Common.arith}

pub returns-clause-peeked : goal.returns-clause-peeked
returns-clause-peeked g c = grind (arith, common_steps)
