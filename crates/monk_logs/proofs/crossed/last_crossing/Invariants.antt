use Rattle.std.proofs.Common.{◌≡◌, ◌≤◌, length, reverse, take}
use Rattle.monk_logs.specs.Crossed as crossings
use Rattle.monk_logs.proofs.crossed.last_crossing.Given as goal

abbrev pub invariant-loop-number : goal.invariant-loop-number
invariant-loop-number l = record {
  within : l.number ≤ length l.before;
  crossing : crossings.crossing_in l.seat l.cond (reverse (take l.number l.before))
      ≡ crossings.crossing_in l.seat l.cond (reverse l.before);
}

-- proposed from the loop's first test
abbrev pub decreases-loop-number : goal.decreases-loop-number
decreases-loop-number l = l.number
