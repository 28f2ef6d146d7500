use Rattle.std.proofs.Common.{◌≡◌, ◌≤◌}
use Rattle.monk_judge.proofs.judge.Judge.asleep_on.Given as goal
use Rattle.monk_judge.specs.{Counts.sleepers_on, Shown.state_of}

abbrev pub invariant-loop-place : goal.invariant-loop-place
invariant-loop-place g l = record {
  counted : l.many ≡ sleepers_on l.cond l.place-index (state_of l.self);
  few : l.many ≤ l.place-index;
}
