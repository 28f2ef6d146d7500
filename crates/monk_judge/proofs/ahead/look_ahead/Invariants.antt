use Rattle.std.proofs.Common.{◌≡◌, ℕ, ◌<◌, ◌≤◌, length, get_or, drop}
use Rattle.monk_judge.proofs.ahead.look_ahead.Given as goal
use Rattle.monk_judge.{specs.declared.wait_end.WaitEnd.TheVariants.Resumes, specs.Ends.IsEnd, proofs.LinesAhead.IsEndAt}

abbrev pub invariant-loop-index : goal.invariant-loop-index
invariant-loop-index l = record {
  within : l.index ≤ length l.lines;
  many : length l.ends.items ≡ length l.lines;
  size : length l.next ≡ 256;
  next : (s : ℕ) → s < 256 → IsEnd s l.index (get_or l.next s (Resumes 0)) (drop l.index l.lines);
  each : (k : ℕ) → l.index ≤ k → k < length l.lines → IsEndAt l.lines k (get_or l.ends.items k (Resumes 0));
}

abbrev pub decreases-loop-index : goal.decreases-loop-index
decreases-loop-index l = l.index
