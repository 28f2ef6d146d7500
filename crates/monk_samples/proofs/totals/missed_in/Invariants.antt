use Rattle.std.proofs.Common.{◌≡◌, ◌≤◌, length, take}
use Rattle.monk_samples.specs.Totals.{missed_in}
use Rattle.monk_samples.proofs.totals.missed_in.Given as goal

abbrev pub invariant-loop-event : goal.invariant-loop-event
invariant-loop-event l = (l.count ≡ missed_in (take l.event-index l.history)) × (l.count ≤ l.event-index)
    × (l.event-index ≤ length l.history)
