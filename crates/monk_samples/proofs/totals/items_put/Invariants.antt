use Rattle.std.proofs.Common.{◌≡◌, ◌≤◌, ◌*◌, length, take}
use Rattle.monk_samples.specs.Totals.{sum_put}
use Rattle.monk_samples.proofs.totals.items_put.Given as goal

abbrev pub invariant-loop-event : goal.invariant-loop-event
invariant-loop-event l = (l.sum ≡ sum_put (take l.event-index l.history)) × (l.sum ≤ l.event-index * 4294967296)
    × (l.event-index ≤ length l.history)
