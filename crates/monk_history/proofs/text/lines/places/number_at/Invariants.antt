use Rattle.std.proofs.Common.{◌≡◌, ◌+◌, ◌*◌, ◌^◌, ◌<◌, ◌++◌, drop}
use Rattle.std.specs.Fmt.{decimal}
use Rattle.monk_history.proofs.text.lines.places.number_at.Given as goal

abbrev pub invariant-loop-count : goal.invariant-loop-count
invariant-loop-count l = record {
  so_far : drop l.place l.bytes ≡ decimal l.number ++ drop (l.place + l.count) l.bytes;
  within : l.number < 2 ^ (4 * l.count);
}
