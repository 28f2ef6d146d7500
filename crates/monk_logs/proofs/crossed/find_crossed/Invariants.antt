use Rattle.std.proofs.Common.{◌≡◌, ◌≤◌, false, get_or, reverse}
use Rattle.monk_logs.specs.Crossed as crossings
use Rattle.monk_logs.proofs.crossed.find_crossed.Given as goal

abbrev pub invariant-loop-seat : goal.invariant-loop-seat
invariant-loop-seat l = record {
  within : crossings.number_crossed l.found ≤ l.seat;
  found : l.found ≡ crossings.crossed_below (λ s. get_or l.sleeps s false) (reverse l.lines) l.seat;
}
