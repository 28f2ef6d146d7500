-- The right to be active is in exactly one place: the statement without the numbers by which it is proved
use Rattle.std.specs.Prelude.{◌≡◌, ℕ, ◌+◌, ◌%◌, ◌<◌, ◌↔◌}
use Rattle.monk_world.specs.{Places.HoldsRight, World.World}
use Rattle.monk_world.specs.Right.{Whereabouts, Nowhere, AtTicket, With, AtSeat}
use Rattle.monk_world.specs.declared.place.Place.TheVariants.{Ticket, Inner}

-- the one place is `right`. Each ticket after the one in use has a seat that waits with it, and no two seats wait
-- with the same ticket
pub record IsInOnePlace (seats : ℕ) (w : World) : Type 0 where
  pub right : Whereabouts
  pub free : (w.unpassed ≡ 0) ↔ (right ≡ Nowhere)
  pub with_seat : (j : ℕ) → HoldsRight (w.place j) ↔ (right ≡ With j)
  pub at_ticket : (j t : ℕ) → w.place j ≡ Ticket t → (w.ticket_place (t % seats) ≡ t + 1) ↔ (right ≡ AtTicket t)
  pub has_taker : (t : ℕ) → right ≡ AtTicket t → (j : ℕ) × (w.place j ≡ Ticket t)
  pub alone : (j m t : ℕ) → w.place j ≡ Ticket t → w.place m ≡ Ticket t → j ≡ m
  pub at_seat : (j : ℕ) → ((w.place j ≡ Inner) × (w.seat_place j ≡ w.count j + 1)) ↔ (right ≡ AtSeat j)
  pub waiting : (t : ℕ) → w.drawn < t + w.unpassed → t < w.drawn → (j : ℕ) × (w.place j ≡ Ticket t)
