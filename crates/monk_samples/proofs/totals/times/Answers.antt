use Rattle.std.proofs.{Common.arith, lemmas.Grind.common_steps}
use Rattle.monk_samples.proofs.totals.times.Goals as goal

pub loop-event-preserved : goal.loop-event-preserved
loop-event-preserved c = grind (arith, common_steps)
