use Rattle.std.proofs.Common.{◌≡◌, ◌≤◌, length, take}
use Rattle.monk_samples.specs.Totals.{count_done}
use Rattle.monk_samples.proofs.totals.times.Given as goal

abbrev pub invariant-loop-event : goal.invariant-loop-event
invariant-loop-event l = (l.count ≡ count_done l.code (take l.event-index l.history)) × (l.count ≤ l.event-index)
    × (l.event-index ≤ length l.history)
