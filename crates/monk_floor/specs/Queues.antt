-- The queues of a floor as plain lists, and how one event changes them
use Rattle.std.specs.Prelude.{◌≡◌, ℕ, ◌+◌, Bool, false, not, Option, Some, None, if◌then◌else◌}
use Rattle.std.specs.Prelude.{List, ◌++◌, map, length, drop, filter, slice_index_or}
use Rattle.std.specs.Option.{option_map_or}
use Rattle.monk_history.specs.{Limits.most_conds, QueueAt.seats_at}
use Rattle.monk_history.specs.Meaning.{Events.next_of, Events.is_waiter, Events.steps_back, Conditions.served_by}
use Rattle.monk_history.specs.Meaning.{Conditions.waiting_by, Waiters.serves, Untils.chooses, Untils.waits_until}
use Rattle.monk_history.specs.Meaning.Standing.{times, times_in_conditions}
use Rattle.monk_history.specs.Meaning.Signallers.{is_empty, signals, takes_signaller}
use Rattle.monk_history.specs.declared.event.Next.{Next}
use Rattle.monk_history.specs.declared.event.Next.TheVariants.{Stay, Entry, Waiter, Signaller, Until as UntilSeat}
use Rattle.monk_history.specs.declared.event.Event.{Event}

-- the queues of a floor, as lists
pub record QueueLists : Type 0 where
  pub conditions : List (List ℕ)
  pub waiters : List ℕ
  pub signallers : List ℕ
  pub untils : List (ℕ × ℕ)

-- queue number c, empty if there is no such queue
abbrev pub queue_at : List (List ℕ) → ℕ → List ℕ
queue_at = seats_at (λ q. q)

-- the waits-until of these seats, each with its predicate
abbrev pub waits_in : List ℕ → List ℕ → List (ℕ × ℕ)
waits_in predicates seats = map (λ s. (s, slice_index_or predicates s 0)) seats

-- the lists of the queues by their numbers: waiters, signallers, waits-until, and then the conditions
abbrev pub lists_of : List ℕ → List (List ℕ) → QueueLists
lists_of predicates queues = record {
  conditions = drop 3 queues;
  waiters = queue_at queues 0;
  signallers = queue_at queues 1;
  untils = waits_in predicates (queue_at queues 2);
}

-- how often the seat waits until a predicate holds
abbrev pub times_in_waits : ℕ → List (ℕ × ℕ) → ℕ
times_in_waits s untils = times s (map (λ w. w.0) untils)

-- in how many of the queues a seat is
abbrev pub in_lists : ℕ → QueueLists → ℕ
in_lists s q =
    times_in_conditions most_conds s (queue_at q.conditions) + times s q.waiters + times s q.signallers
    + times_in_waits s q.untils

-- the seat of the waits-until that was chosen
abbrev pub chosen_until : Option Next → Option ℕ
chosen_until None = None
chosen_until (Some Stay) = None
chosen_until (Some Entry) = None
chosen_until (Some (Waiter j)) = None
chosen_until (Some (Signaller j)) = None
chosen_until (Some (UntilSeat j)) = Some j

-- what an event itself joins and serves
pub record IsServed (old : QueueLists) (e : Event) (new : QueueLists) : Type 0 where
  pub condition : (c : ℕ) → queue_at new.conditions c ≡ drop (length (served_by c e (queue_at old.conditions c)))
      (queue_at old.conditions c) ++ waiting_by c e
  pub waiters : new.waiters ≡ old.waiters ++ serves (queue_at old.conditions) e
  pub signallers : new.signallers ≡ old.signallers ++ signals (queue_at old.conditions) e
  pub untils : new.untils ≡ old.untils ++ waits_until e

-- whether it is a signal on an empty condition
abbrev pub finds_none : (ℕ → List ℕ) → Event → Bool
finds_none queue e = option_map_or (λ c. is_empty (queue c)) (steps_back e) false

-- how an event changes the queues
pub record IsMoved (old : QueueLists) (e : Event) (new : QueueLists) : Type 0 where
  pub condition : (c : ℕ) → queue_at new.conditions c ≡ drop (length (served_by c e (queue_at old.conditions c)))
      (queue_at old.conditions c) ++ waiting_by c e
  pub waiters : new.waiters ≡ drop (if is_waiter (next_of e) then 1 else 0)
      (old.waiters ++ serves (queue_at old.conditions) e)
  pub signallers : new.signallers ≡ drop (if takes_signaller (queue_at old.conditions) e then 1 else 0)
      (old.signallers ++ signals (queue_at old.conditions) e)
  pub untils : new.untils ≡ filter (λ w. not (chooses e w)) old.untils ++ waits_until e
