-- What is counted over a history seat by seat
use Rattle.std.specs.Prelude.{ℕ, ◌-◌, ◌==◌, Bool, false, Option, Some, None, List, filter, length, count_by, is_some}
use Rattle.monk_history.specs.Meaning.Events.{seat_of, next_of, via_of}
use Rattle.monk_history.specs.declared.event.Event.{Event}
use Rattle.monk_history.specs.declared.event.Next.{Next}
use Rattle.monk_history.specs.declared.event.Next.TheVariants.{Stay, Entry, Waiter, Signaller, Until as UntilSeat}

-- the events of one seat, in order
unfoldable pub events_of : List Event → ℕ → List Event
events_of h s = filter (λ e. seat_of e == s) h

-- how many events a seat has left of its budget
abbrev pub left_of : ℕ → List Event → ℕ → ℕ
left_of budget h s = budget - length (events_of h s)

-- whether the event is an entry
abbrev pub is_enter : Event → Bool
is_enter e = is_some (via_of e)

-- how many enters there are
unfoldable pub enters_of : List Event → ℕ
enters_of h = count_by is_enter h

-- whether this is the choice of that seat from a queue
abbrev pub chooses_seat : ℕ → Option Next → Bool
chooses_seat s None = false
chooses_seat s (Some Stay) = false
chooses_seat s (Some Entry) = false
chooses_seat s (Some (Waiter j)) = j == s
chooses_seat s (Some (Signaller j)) = j == s
chooses_seat s (Some (UntilSeat j)) = j == s

-- whether the event chooses that seat to go on
abbrev pub grants : ℕ → Event → Bool
grants s e = chooses_seat s (next_of e)

-- how many events chose that seat from a queue
unfoldable pub granted_of : List Event → ℕ → ℕ
granted_of h s = count_by (grants s) h
