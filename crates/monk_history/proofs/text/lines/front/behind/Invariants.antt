use Rattle.std.proofs.Common.{◌≡◌, take}
use Rattle.monk_history.proofs.text.lines.front.behind.Given as goal

abbrev pub invariant-loop-at : goal.invariant-loop-at
invariant-loop-at l = take l.at l.bytes ≡ take l.at l.word
