-- The close of a monitor through one of its handles
use Rattle.std.specs.Prelude.{◌≡◌, ◌⊎◌, ◌<◌, ℕ, ℤ, pos, Bool, false, not, is_some, List, slice_get, slice_set, Option, Some, None, IfSome, if◌then◌else◌}
use Rattle.std.specs.List.{list_all}
use Rattle.monk_hall.specs.{Changes.record_after_arrive, Layout.unpassed}
use Rattle.monk_c.specs.{Answers.refusal_number, Coming.HasCome, Handles.booked, Refusal.is_outside, Refusal.refusal_at}
use Rattle.monk_c.specs.{Stands.At, Stands.Booked, Taken.IsOutside, Taken.IsWaiting}
use Rattle.monk_c.specs.declared.{any_seat.AnySeat.AnySeat, call.Call.TheVariants.Arrive, handle.MonkSeat.MonkSeat}
use Rattle.monk_c.specs.declared.refusal.Refusal.{Refusal, TheVariants.NotNow, TheVariants.Range, TheVariants.Closed}

-- whether the handle has a seat that is outside
abbrev pub has_seat_outside : Option Booked → Bool
has_seat_outside None = false
has_seat_outside (Some b) = is_outside b.seat.at

-- each handle has a seat
abbrev pub are_seated : List MonkSeat → Bool
are_seated handles = list_all (λ h. is_some (booked h.has)) handles

-- each handle has a seat outside
abbrev pub are_outside : List MonkSeat → Bool
are_outside handles = list_all (λ h. has_seat_outside (booked h.has)) handles

-- why the monitor can't be closed through any handle, if it can't
abbrev pub refusal_of_seats : List MonkSeat → Option Refusal
refusal_of_seats handles =
    if not (are_seated handles) then Some Closed
    else if not (are_outside handles) then Some NotNow
    else None

-- the first refusal that applies: no handle has the number, the seats refuse it, or its own seat can't arrive
abbrev pub refusal_through : Option MonkSeat → Option Refusal → Option Refusal
refusal_through None seats = Some Range
refusal_through (Some h) (Some f) = Some f
refusal_through (Some h) None = refusal_at (booked h.has) Arrive

-- why a close is refused, if it is
abbrev pub close_refusal : List MonkSeat → ℕ → Option Refusal
close_refusal handles by = refusal_through (slice_get handles by) (refusal_of_seats handles)

-- the arrival found a ticket that isn't passed on
abbrev pub FoundTaken : At → At → Type 0
FoundTaken s t = IsOutside s (λ p. IsWaiting t (λ q.
    (found : ℕ) × (q.me ≡ record_after_arrive p.me found) × (0 < unpassed found)))

-- the seat is inside; or it waits, because the one that arrived found the monitor taken. If each seat of the hall is
-- outside, no ticket is left, which is a law of the hall (`idle_hall_is_free`)
abbrev pub IsInOrTaken : Option Booked → Option Booked → ℤ → Type 0
IsInOrTaken None arrived code = ⊥
IsInOrTaken (Some a) None code = ⊥
IsInOrTaken (Some a) (Some b) code = (code ≡ pos 3) ⊎ ((code ≡ pos 2) × FoundTaken a.seat.at b.seat.at)

-- the handle's seat has arrived and polled, and each other handle is as before
pub record IsClosed (old : List MonkSeat) (by : ℕ) (code : ℤ) (new : List MonkSeat) : Type 0 where
  pub handle : MonkSeat
  pub last : AnySeat
  pub chosen : slice_get old by ≡ Some handle
  pub come : HasCome handle.has code last
  pub inside : IsInOrTaken (booked handle.has) (booked come.between) code
  pub others : new ≡ slice_set old by (record handle { has = last })

-- a close that is refused changes nothing, and is answered by its refusal
abbrev pub IfCloseRefused : List MonkSeat → ℕ → ℤ → List MonkSeat → Type 0
IfCloseRefused old by code new = IfSome (close_refusal old by) (λ f. (new ≡ old) × (code ≡ refusal_number f))

-- a close that isn't refused closes the monitor
abbrev pub IfClosed : List MonkSeat → ℕ → ℤ → List MonkSeat → Type 0
IfClosed old by code new = close_refusal old by ≡ None → IsClosed old by code new
