use Rattle.std.proofs.Common.{◌≡◌, ◌≤◌, ◌-◌, length}
use Rattle.std.specs.{Prelude.All, Arc.arc_value}
use Rattle.monk_c.proofs.deal.shared.Given as goal

abbrev pub invariant-loop-rooms : goal.invariant-loop-rooms
invariant-loop-rooms g l =
    (arc_value l.first ≡ l.fn.room) × (length l.rooms.items ≤ l.count)
    × All (λ s. arc_value s ≡ l.fn.room) l.rooms.items

abbrev pub decreases-loop-rooms : goal.decreases-loop-rooms
decreases-loop-rooms g l = l.count - length l.rooms.items
