-- The right to be active is in one place
use Rattle.std.specs.Prelude.{◌≡◌, ◌≢◌, ℕ, ◌+◌, ◌%◌, ◌<◌, ◌≤◌, ◌↔◌}
use Rattle.monk_world.specs.{World.World, declared.place.Place.Place}
use Rattle.monk_world.specs.Places.{HoldsRight, stage, ticket, source, back_turn, due_to, ticketed_stage, due_stage}
use Rattle.monk_world.specs.Places.{back_stage, passing_stage, inside_stage, granted_source}

-- where the right is
pub data Whereabouts : Type 0 where
  -- the monitor is free
  Nowhere : Whereabouts
  -- it is in the place of this ticket, which was granted
  AtTicket : ℕ → Whereabouts
  -- this seat has it
  With : ℕ → Whereabouts
  -- it is in the place of this seat, which was called
  AtSeat : ℕ → Whereabouts

-- if t tickets were drawn and n are not passed on, the ticket in use is t - n
abbrev pub IsNext : ℕ → ℕ → ℕ → Type 0
IsNext t n k = k + n ≡ t

-- the owner of a ticket waits with it
abbrev pub Waits : (ℕ → Place) → (ℕ → ℕ) → ℕ → Type 0
Waits place owner k = (stage (place (owner k)) ≡ ticketed_stage) × (ticket (place (owner k)) ≡ k)

-- For a seat at place p:

-- if it is due by a ticket, that ticket is in use
abbrev pub UsesTicket : ℕ → ℕ → Place → Type 0
UsesTicket t n p = stage p ≡ due_stage → source p ≤ granted_source → IsNext t n (ticket p)

-- if seat j waits with a ticket, that was drawn, is not passed on, and is its own
abbrev pub OwnsTicket : ℕ → ℕ → (ℕ → ℕ) → ℕ → Place → Type 0
OwnsTicket t n owner j p =
    stage p ≡ ticketed_stage → (ticket p < t) × (t ≤ ticket p + n) × (owner (ticket p) ≡ j)

-- if it has to grant a ticket, that is next, and its owner waits
abbrev pub PassesNext : ℕ → ℕ → (ℕ → Place) → (ℕ → ℕ) → Place → Type 0
PassesNext t n place owner p = stage p ≡ passing_stage → IsNext t n (ticket p) × Waits place owner (ticket p)

-- if it waits with the next ticket, and no seat has to grant one, that ticket was granted
abbrev pub WasGranted : ℕ → ℕ → Whereabouts → (ℕ → Place) → Place → Type 0
WasGranted t n right place p =
    stage p ≡ ticketed_stage → IsNext t n (ticket p) → ((k : ℕ) → stage (place k) ≢ passing_stage)
    → right ≡ AtTicket (ticket p)

-- while it has to grant a ticket, no ticket's place has the next one
abbrev pub LeavesLow : ℕ → ℕ → ℕ → (ℕ → ℕ) → Place → Type 0
LeavesLow seats t n ticket_place p = stage p ≡ passing_stage → (i : ℕ) → i < seats → ticket_place i + n ≤ t

-- the seat that it has chosen is parked inside
abbrev pub ChoseInner : (ℕ → Place) → Place → Type 0
ChoseInner place p = stage p ≡ back_stage → (k : ℕ) → back_turn p ≡ due_to k → stage (place k) ≡ inside_stage

-- the monitor is free if, and only if, every ticket is passed on. A seat has the right if, and only if, it is at a
-- place that holds it
pub record KeepsHolder (w : World) (right : Whereabouts) : Type 0 where
  pub free : (w.unpassed ≡ 0) ↔ (right ≡ Nowhere)
  pub with_seat : (j : ℕ) → HoldsRight (w.place j) ↔ (right ≡ With j)

-- the first ticket that is not passed on is in use, granted or to be granted. The owner of each later one waits with
-- it
pub record KeepsTickets (w : World) (right : Whereabouts) (owner : ℕ → ℕ) : Type 0 where
  pub behind : w.unpassed ≤ w.drawn
  pub in_use : (j : ℕ) → UsesTicket w.drawn w.unpassed (w.place j)
  pub waits : (j : ℕ) → OwnsTicket w.drawn w.unpassed owner j (w.place j)
  pub owned : (k : ℕ) → k < w.drawn → w.drawn < k + w.unpassed → Waits w.place owner k
  pub passing : (j : ℕ) → PassesNext w.drawn w.unpassed w.place owner (w.place j)
  pub granted : (j : ℕ) → WasGranted w.drawn w.unpassed right w.place (w.place j)
  pub grant : (t : ℕ) → right ≡ AtTicket t → IsNext w.drawn w.unpassed t × Waits w.place owner t

-- the place of a granted ticket has it, and no place has a ticket that was not granted
pub record KeepsPlaces (seats : ℕ) (w : World) (right : Whereabouts) : Type 0 where
  pub granted : (t : ℕ) → right ≡ AtTicket t → w.ticket_place (t % seats) ≡ t + 1
  pub low : (i : ℕ) → i < seats → w.ticket_place i + w.unpassed ≤ w.drawn + 1
  pub low_passing : (j : ℕ) → LeavesLow seats w.drawn w.unpassed w.ticket_place (w.place j)
  pub low_free : w.unpassed ≡ 0 → (i : ℕ) → i < seats → w.ticket_place i ≤ w.drawn

-- the place of a seat counts one call more than the seat if, and only if, the seat is called. A seat that is called
-- or chosen is parked inside
pub record KeepsCalls (w : World) (right : Whereabouts) : Type 0 where
  pub called : (j : ℕ) → right ≡ AtSeat j → (stage (w.place j) ≡ inside_stage) × (w.seat_place j ≡ w.count j + 1)
  pub not_called : (j : ℕ) → right ≢ AtSeat j → w.seat_place j ≡ w.count j
  pub chose : (j : ℕ) → ChoseInner w.place (w.place j)

-- the right is where `right` says, and a ticket k that is not passed on belongs to the seat `owner k`
pub record KeepsRight (seats : ℕ) (w : World) (right : Whereabouts) (owner : ℕ → ℕ) : Type 0 where
  pub holder : KeepsHolder w right
  pub tickets : KeepsTickets w right owner
  pub places : KeepsPlaces seats w right
  pub calls : KeepsCalls w right
