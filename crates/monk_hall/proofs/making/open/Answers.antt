use Rattle.std.proofs.{Common.arith, lemmas.Grind.common_steps}
use Rattle.monk_hall.proofs.making.open.Goals as goal

pub new-requires-after_bounds : goal.new-requires-after_bounds
new-requires-after_bounds g c κs within = grind (arith, common_steps)
