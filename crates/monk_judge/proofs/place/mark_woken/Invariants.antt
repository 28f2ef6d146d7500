use Rattle.std.proofs.Common.{◌≡◌, ℕ, ◌<◌, ◌≤◌, get_or}
use Rattle.monk_judge.proofs.place.mark_woken.Given as goal
use Rattle.monk_judge.specs.{declared.place.Place.TheVariants.Outside, Run.woken}

abbrev pub invariant-loop-place : goal.invariant-loop-place
invariant-loop-place l = record {
  past : (k : ℕ) → k < l.place-index → get_or l.places k Outside ≡ woken l.cond (get_or l.initial.places k Outside);
  left : (k : ℕ) → l.place-index ≤ k → get_or l.places k Outside ≡ get_or l.initial.places k Outside;
}
