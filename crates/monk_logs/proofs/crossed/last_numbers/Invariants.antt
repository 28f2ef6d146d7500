use Rattle.std.proofs.Common.{◌≡◌, ℕ, None, get_or, length, take}
use Rattle.monk_logs.proofs.crossed.last_numbers.Given as goal
use Rattle.monk_logs.specs.{LastLine.last_line, declared.subject.Subject.TheVariants.Seat}

abbrev pub invariant-loop-line : goal.invariant-loop-line
invariant-loop-line l = record {
  number : l.number ≡ l.line-index;
  sized : length l.numbers ≡ 256;
  last : (s : ℕ) → get_or l.numbers s None ≡ last_line (Seat s) (take l.line-index l.lines);
}
