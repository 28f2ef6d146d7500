use Rattle.std.proofs.Common.{◌≡◌, ◌+◌, ◌≤◌, ◌^◌, ◌++◌, ℕ, List}
use Rattle.monk_history.specs.Text.{Pieces.items_with, Reading.event_under}
use Rattle.monk_audit.proofs.course.read_lines.Given as goal
use Rattle.monk_audit.specs.{Reading.read_through, Pieces.events_from}

abbrev pub invariant-loop-event : goal.invariant-loop-event
invariant-loop-event l = record {
  so_far : (more : List ℕ) → read_through (items_with (event_under l.header) l.lines more)
      ≡ read_through (events_from l.header l.fn.count (l.fn.bytes ++ more));
  number : l.lines.number + l.lines.room ≡ 2 ^ 25 + 2;
  room : l.lines.room ≤ 2 ^ 25;
}

abbrev pub decreases-loop-event : goal.decreases-loop-event
decreases-loop-event l = l.lines.room
