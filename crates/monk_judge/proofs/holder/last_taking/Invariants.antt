use Rattle.std.proofs.Common.{◌≡◌, ℕ, ◌<◌, ◌≤◌, true, length, get_or}
use Rattle.monk_logs.specs.declared.text.line.LogLine.TheVariants.{Enter}
use Rattle.monk_judge.specs.Holding.{takes_lock}
use Rattle.monk_judge.proofs.holder.last_taking.Given as goal

abbrev pub invariant-loop-index : goal.invariant-loop-index
invariant-loop-index l = record {
  within : l.index ≤ length l.lines;
  none : (k : ℕ) → l.index ≤ k → k < length l.lines → takes_lock (get_or l.lines k (Enter 0)) ≡ true → ⊥;
}

abbrev pub decreases-loop-index : goal.decreases-loop-index
decreases-loop-index l = l.index
