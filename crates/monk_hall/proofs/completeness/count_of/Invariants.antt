use Rattle.std.proofs.Common.{◌≡◌, ◌≤◌, length, take}
use Rattle.monk_history.specs.Meaning.Counts.{events_of}
use Rattle.monk_hall.proofs.completeness.count_of.Given as goal

abbrev pub invariant-loop-event : goal.invariant-loop-event
invariant-loop-event l = (l.count ≡ length (events_of (take l.event-index l.history) l.seat))
    × (l.count ≤ l.event-index)
    × (l.event-index ≤ length l.history)
