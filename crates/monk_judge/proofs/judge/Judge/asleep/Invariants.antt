use Rattle.std.proofs.Common.{◌≡◌, ◌≤◌}
use Rattle.monk_judge.proofs.judge.Judge.asleep.Given as goal
use Rattle.monk_judge.specs.{Counts.sleepers, Shown.state_of}

abbrev pub invariant-loop-place : goal.invariant-loop-place
invariant-loop-place g l = record {
  counted : l.many ≡ sleepers l.place-index (state_of l.self);
  few : l.many ≤ l.place-index;
}
