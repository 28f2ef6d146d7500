-- When a floor's fields can take one more event
use Rattle.std.specs.Prelude.{◌≡◌, ℕ, ◌<◌, ◌^◌, Bool, false, true, List, length, slice_index_or, nat_lt}
use Rattle.std.specs.{List.list_all, Option.option_map_or}
use Rattle.monk_object.specs.Object.{Object}
use Rattle.monk_history.specs.{Limits.most_seats, Limits.most_conds, declared.event.Event.Event}
use Rattle.monk_history.specs.Meaning.{Reasons.is_condition, Signallers.is_empty}
use Rattle.monk_history.specs.Meaning.Events.{seat_of, next_of, named_seat, waits_on, signals_on, awaited_predicate}
use Rattle.monk_history.specs.Meaning.Events.{steps_back}
use Rattle.monk_floor.specs.Queues.{QueueLists, in_lists}

-- an event fits the floor's fields
pub record HasRoomFor (q : QueueLists) (inside : List Bool) (spent granted : List ℕ) (entered : ℕ)
    (e : Event) : Type 0 where
  pub few : seat_of e < most_seats
  pub seat : seat_of e < length inside
  pub counted : seat_of e < length spent
  pub low : slice_index_or spent (seat_of e) 0 < 2 ^ 25
  pub named : list_all (λ j. nat_lt j (length granted)) (named_seat (next_of e)) ≡ true
  pub low_granted : (j : ℕ) → slice_index_or granted j 0 < 2 ^ 25
  pub low_entered : entered < 2 ^ 25
  pub waits : is_condition most_conds (waits_on e) ≡ true
  pub signals : is_condition most_conds (signals_on e) ≡ true
  pub apart : in_lists (seat_of e) q ≡ 0

-- whether an event must stay, by the queues of the conditions and the data
abbrev pub stays_by : Object → (ℕ → List ℕ) → List ℕ → Event → Bool
stays_by o queue d e =
    option_map_or (λ c. is_empty (queue c)) (steps_back e)
    (option_map_or (λ p. o.holds d p) (awaited_predicate e) false)
