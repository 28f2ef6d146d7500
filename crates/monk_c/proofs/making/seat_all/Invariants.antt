use Rattle.std.proofs.Common.{◌≡◌, ◌≤◌, ◌<◌, ℕ, length, slice_index_or}
use Rattle.monk_c.proofs.making.seat_all.Given as goal
use Rattle.monk_c.specs.{Deals.deal_in, Deals.kind_dealt, Making.AreFresh, declared.handle.MonkSeat.MonkSeat}

abbrev pub invariant-loop-at : goal.invariant-loop-at
invariant-loop-at l =
    ((deal_in l.deal).left ≡ l.at) × (kind_dealt l.deal ≡ kind_dealt l.fn.deal)
    × ((deal_in l.deal).room ≡ (deal_in l.fn.deal).room)
    × (l.at ≤ length l.fn.handles)
    × (length l.handles ≡ length l.fn.handles)
    × ((i : ℕ) (d : MonkSeat) → i < l.at → slice_index_or l.handles i d ≡ slice_index_or l.fn.handles i d)
    × AreFresh (kind_dealt l.fn.deal) (deal_in l.fn.deal).room l.at l.fn.handles l.handles

abbrev pub decreases-loop-at : goal.decreases-loop-at
decreases-loop-at l = l.at
