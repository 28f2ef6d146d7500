use Rattle.std.proofs.{Common.arith, lemmas.Grind.common_steps}
use Rattle.monk_hall.proofs.completeness.count_of.Goals as goal
use Rattle.monk_hall.proofs.completeness.count_of.Goals.{then-seat, else-seat}
use Rattle.monk_hall.proofs.CompleteLaws.{other_counted, own_counted, starts_counted}

pub loop-event-init : goal.loop-event-init
loop-event-init c = starts_counted c.args.history.now c.args.seat

pub loop-event-preserved : goal.loop-event-preserved
loop-event-preserved c = grind (arith, common_steps, then-seat, own_counted, else-seat, other_counted)
