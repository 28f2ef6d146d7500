use Rattle.monk_hall.proofs.hall.Hall.make.Goals as goal
use Rattle.std.proofs.{lemmas.Grind.common_steps, Common.arith}

pub open-requires-clause-floor : goal.open-requires-clause-floor
open-requires-clause-floor g c κs within = rw c.of-opening.ensures c.in_ok-floor.ensures.made.1

pub returns-clause-made : goal.returns-clause-made
returns-clause-made g c = grind (arith, common_steps)
