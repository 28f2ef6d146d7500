-- How one more event changes where seats are, and what is counted seat by seat
use Rattle.std.specs.Prelude.{◌≡◌, ◌≢◌, ℕ, ◌+◌, ◌==◌, Bool, true, ◌&&◌, ◌||◌, not, List, [], ◌∷◌, ◌++◌, length, if◌then◌else◌, is_some}
use Rattle.monk_history.specs.Meaning.{Monitor.Monitor, Situation.Situation, Turn.turn, Turn.turn_by}
use Rattle.monk_history.specs.Meaning.Counts.{events_of, is_enter, enters_of, grants, granted_of}
use Rattle.monk_history.specs.Meaning.Standing.{in_queues, standing}
use Rattle.monk_history.specs.Meaning.Events.{seat_of, next_of, is_stay, is_way_out, waits_on, awaited_predicate}
use Rattle.monk_history.specs.Meaning.Events.{steps_back}
use Rattle.monk_history.specs.declared.event.Event.{Event}

-- whether an event puts its own seat into a queue: a wait, and a signal or an until that does not stay
abbrev pub parks : Event → Bool
parks e = is_some (waits_on e)
    || ((is_some (steps_back e) || is_some (awaited_predicate e)) && not (is_stay (next_of e)))

-- where seats are before an event, in the situation t, and after it, in u
pub record StandsAfter (m : Monitor) (t : Situation) (e : Event) (u : Situation) : Type 0 where
  -- its own seat is in no queue before. After it, it is in one if it parks, and nowhere if it is on its way out
  pub apart : in_queues m.conds (seat_of e) t ≡ 0
  pub caller_queued : in_queues m.conds (seat_of e) u ≡ (if parks e then 1 else 0)
  pub caller_stands : standing m.conds (seat_of e) u ≡ (if is_way_out e then 0 else 1)
  -- each other seat is in as many places as before, and in one queue less if it was chosen
  pub others_stand : (j : ℕ) → j ≢ seat_of e → standing m.conds j u ≡ standing m.conds j t
  pub others_queued : (j : ℕ) → j ≢ seat_of e
      → in_queues m.conds j u + (if grants j e then 1 else 0) ≡ in_queues m.conds j t
  -- the seat that it chose is another. It is in exactly one queue before, and in none after
  pub chosen_other : (j : ℕ) → grants j e ≡ true → j ≢ seat_of e
  pub chosen_before : (j : ℕ) → grants j e ≡ true → in_queues m.conds j t ≡ 1
  pub chosen_after : (j : ℕ) → grants j e ≡ true → in_queues m.conds j u ≡ 0

-- what is counted over a history, after one more event
pub record CountsAfter (h : List Event) (e : Event) : Type 0 where
  pub events : (s : ℕ) → events_of (h ++ e ∷ []) s ≡ events_of h s ++ (if seat_of e == s then e ∷ [] else [])
  pub spent : (s : ℕ) → length (events_of (h ++ e ∷ []) s) ≡ length (events_of h s) + (if seat_of e == s then 1 else 0)
  pub enters : enters_of (h ++ e ∷ []) ≡ enters_of h + (if is_enter e then 1 else 0)
  pub granted : (s : ℕ) → granted_of (h ++ e ∷ []) s ≡ granted_of h s + (if grants s e then 1 else 0)
  pub turn : turn (h ++ e ∷ []) ≡ turn_by (seat_of e) (next_of e)
