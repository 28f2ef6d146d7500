use Rattle.std.proofs.Common.{◌≡◌, ℕ, ◌<◌, ◌≤◌, List, None, length, get_or}
use Rattle.monk_logs.specs.declared.text.line.LogLine.{LogLine}
use Rattle.monk_judge.specs.Hints.{AreWaiters, marked}
use Rattle.monk_judge.proofs.passed.Passed.end_visit.Given as goal

abbrev pub invariant-loop-seat : goal.invariant-loop-seat
invariant-loop-seat l = record {
  size : length l.self.seats ≡ 256;
  past : (log : List LogLine) → AreWaiters log l.waiters.table.items → (j : ℕ) → j < l.seat
      → get_or l.self.seats j None
      ≡ marked log l.rival (get_or l.initial.self.passing j None) (get_or l.initial.self.seats j None);
  left : (j : ℕ) → l.seat ≤ j → get_or l.self.seats j None ≡ get_or l.initial.self.seats j None;
  passing : l.self.passing ≡ l.initial.self.passing;
}
