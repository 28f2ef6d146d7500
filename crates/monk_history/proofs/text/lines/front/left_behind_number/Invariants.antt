use Rattle.std.proofs.Common.{◌≡◌, ◌<◌, ◌^◌, ◌++◌, length}
use Rattle.std.specs.Fmt.{decimal}
use Rattle.monk_history.proofs.text.lines.front.left_behind_number.Given as goal

abbrev pub invariant-loop-next : goal.invariant-loop-next
invariant-loop-next l = record {
  so_far : l.line ≡ decimal l.number ++ l.rest;
  within : l.number < 2 ^ 63;
}

abbrev pub decreases-loop-next : goal.decreases-loop-next
decreases-loop-next l = length l.rest
