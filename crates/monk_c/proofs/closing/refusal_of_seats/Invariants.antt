use Rattle.std.proofs.Common.{◌≡◌, ◌≤◌, ◌-◌, true, length, take}
use Rattle.monk_c.specs.Closing.{are_outside, are_seated}
use Rattle.monk_c.proofs.closing.refusal_of_seats.Given as goal

abbrev pub invariant-loop-at : goal.invariant-loop-at
invariant-loop-at l =
    (l.handles ≡ l.fn.handles) × (l.at ≤ length l.fn.handles)
    × (are_seated (take l.at l.fn.handles) ≡ true)
    × (l.are_outside ≡ are_outside (take l.at l.fn.handles))

abbrev pub decreases-loop-at : goal.decreases-loop-at
decreases-loop-at l = length l.fn.handles - l.at
