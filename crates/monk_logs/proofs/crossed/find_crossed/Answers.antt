use Rattle.std.proofs.{Common.arith, Common.false, Common.get_or, Common.reverse, lemmas.Grind.common_steps}
use Rattle.monk_logs.proofs.crossed.find_crossed.Goals as goal
use Rattle.monk_logs.proofs.CrossedLaws.{nobody_crossed, seat_more}

pub loop-seat-init : goal.loop-seat-init
loop-seat-init c = record {
  within = omega arith;
  found = nobody_crossed (λ s. get_or c.args.sleeps.now s false) (reverse c.args.lines.now);
}

pub loop-seat-preserved : goal.loop-seat-preserved
loop-seat-preserved c = record {
  within = c.with_seat-found.ensures.within _ c.loop-seat.invariant.within;
  found = grind (arith, common_steps, seat_more);
}
