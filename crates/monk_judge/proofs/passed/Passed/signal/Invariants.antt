use Rattle.std.proofs.Common.{◌≡◌, ℕ, ◌<◌, ◌≤◌, None, length, get_or}
use Rattle.monk_judge.specs.Hints.{other_than}
use Rattle.monk_judge.proofs.passed.Passed.signal.Given as goal

abbrev pub invariant-loop-seat : goal.invariant-loop-seat
invariant-loop-seat l = record {
  size : length l.self.passing ≡ 256;
  past : (j : ℕ) → j < l.seat
      → get_or l.self.passing j None ≡ other_than l.cond (get_or l.initial.self.passing j None);
  left : (j : ℕ) → l.seat ≤ j → get_or l.self.passing j None ≡ get_or l.initial.self.passing j None;
  seats : l.self.seats ≡ l.initial.self.seats;
}
