use Rattle.std.proofs.Common.{◌≡◌, ◌≤◌, length, take}
use Rattle.monk_samples.specs.Totals.{sum_taken}
use Rattle.monk_samples.proofs.totals.items_taken.Given as goal

abbrev pub invariant-loop-event : goal.invariant-loop-event
invariant-loop-event l = (l.sum ≡ sum_taken (take l.event-index l.history)) × (l.event-index ≤ length l.history)
