use Rattle.std.proofs.Common.{◌≡◌, ◌≤◌}
use Rattle.monk_judge.proofs.judge.Judge.woken.Given as goal
use Rattle.monk_judge.specs.{Counts.woken_ones, Shown.state_of}

abbrev pub invariant-loop-place : goal.invariant-loop-place
invariant-loop-place g l = record {
  counted : l.many ≡ woken_ones l.place-index (state_of l.self);
  few : l.many ≤ l.place-index;
}
