-- Where a seat is, in a state of the monitor
use Rattle.std.specs.Prelude.{ℕ, ◌==◌, Bool, false, Option, Some, None, List, [], ◌++◌, if◌then◌else◌, codes}
use Rattle.std.specs.{Prelude.option_and_then, Prelude.option_map, Fmt.decimal, List.find, Option.option_map_or}
use Rattle.monk_history.specs.declared.event.From3.TheVariants as from
use Rattle.monk_history.specs.declared.event.Turn.{Turn, TheVariants.Open, TheVariants.Due, TheVariants.Owned}
use Rattle.monk_history.specs.declared.event.From3.{From3}
use Rattle.monk_audit.specs.Replay.{has}
use Rattle.monk_tell.specs.{Cause.waits_at, Told.ShownQueues, Told.ShownStanding}
use Rattle.monk_tell.specs.declared.place.SeatPlace.{SeatPlace}
use Rattle.monk_tell.specs.declared.place.SeatPlace.TheVariants.{Outside, Active, Condition, Waiter, Signaller, Until}

-- the place of a chosen seat until it resumes, by the queue from which it was chosen
abbrev pub chosen_from : From3 → SeatPlace
chosen_from from.Waiter = Waiter
chosen_from from.Signaller = Signaller
chosen_from from.Until = Until None

-- the place by whose turn it is; `waits` is the seat's place in the queues
abbrev pub by_turn : Turn → ℕ → SeatPlace → SeatPlace
by_turn Open s waits = waits
by_turn (Due j q) s waits = if j == s then chosen_from q else waits
by_turn (Owned j) s waits = if j == s then Active else waits

-- the condition on which the seat waits
abbrev pub condition_of : Option (List (List ℕ)) → ℕ → Option ℕ
condition_of conditions s = option_and_then (λ queues. waits_at queues s) conditions

-- the predicate until which it waits
abbrev pub until_of : Option (List (ℕ × ℕ)) → ℕ → Option ℕ
until_of untils s = option_and_then (λ ws. option_map (λ w. w.1) (find (λ w. w.0 == s) ws)) untils

-- whether the seat is in that queue, if the kind has it
abbrev pub is_in : Option (List ℕ) → ℕ → Bool
is_in queue s = option_map_or (has s) queue false

-- the seat's place in the queues
abbrev pub in_queues : ShownQueues → ℕ → SeatPlace
in_queues q s =
    option_map_or (λ c. Condition c) (condition_of q.conditions s)
    (if is_in q.waiters s then Waiter else if is_in q.signallers s then Signaller
    else option_map_or (λ p. Until (Some p)) (until_of q.untils s) Outside)

-- where the seat is
abbrev pub place_in : ShownStanding → ℕ → SeatPlace
place_in t s = by_turn t.turn s (in_queues t.queues s)

-- the queue in which it waits, with a space before it
abbrev pub place_text : SeatPlace → List ℕ
place_text Outside = []
place_text Active = []
place_text (Condition c) = codes " condition " ++ decimal c
place_text Waiter = codes " waiter"
place_text Signaller = codes " signaller"
place_text (Until None) = []
place_text (Until (Some p)) = codes " until " ++ decimal p
