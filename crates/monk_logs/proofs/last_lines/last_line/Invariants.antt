use Rattle.std.proofs.Common.{◌≡◌, take}
use Rattle.monk_logs.specs.LastLine as last_lines
use Rattle.monk_logs.proofs.last_lines.last_line.Given as goal

abbrev pub invariant-loop-line : goal.invariant-loop-line
invariant-loop-line l = record {
  number : l.number ≡ l.line-index;
  last : l.last ≡ last_lines.last_line l.subject (take l.line-index l.lines);
}
