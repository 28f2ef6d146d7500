use Rattle.std.proofs.Common.{◌≡◌, length, take}
use Rattle.monk_judge.specs.Hints.{AreWaiters}
use Rattle.monk_judge.proofs.waiters.Waiters.of.Given as goal

abbrev pub invariant-loop-line : goal.invariant-loop-line
invariant-loop-line l = record {
  size : length l.table.items ≡ 65536;
  are : AreWaiters (take l.line-index l.lines) l.table.items;
}
