use Rattle.std.proofs.{Common.arith, lemmas.Grind.common_steps}
use Rattle.monk_samples.proofs.totals.items_taken.Goals as goal
use Rattle.monk_samples.proofs.TotalLaws.{taken_next, taken_first}

pub overflow_add-sum : goal.overflow_add-sum
overflow_add-sum c = grind (arith, common_steps, taken_next, taken_first)

pub loop-event-preserved : goal.loop-event-preserved
loop-event-preserved c = grind (arith, common_steps)
