-- What a floor's fields say of its history
use Rattle.std.specs.Prelude.{◌≡◌, ℕ, ◌≤◌, ◌<◌, ◌*◌, Bool, false, not, All, List, [], length, slice_index_or}
use Rattle.monk_history.specs.Limits.{most_seats, most_conds, most_budget}
use Rattle.monk_history.specs.Meaning.{Monitor.Monitor, Situation.Situation, Situation.situation, Signallers.is_empty}
use Rattle.monk_history.specs.Meaning.{Legal.IsLegal, Counts.events_of, Counts.granted_of, Counts.enters_of}
use Rattle.monk_history.specs.declared.event.{Event.Event, Turn.Turn}
use Rattle.monk_floor.specs.Queues.{QueueLists, queue_at}

-- the situation that the fields show
abbrev pub shown_situation : QueueLists → List ℕ → Turn → List Bool → Bool → Situation
shown_situation q state turn inside begun = record {
  condition = queue_at q.conditions;
  waiters = q.waiters;
  signallers = q.signallers;
  untils = q.untils;
  state = state;
  turn = turn;
  inside = λ j. slice_index_or inside j false;
  begun = begun;
}

-- what the floor keeps with its history is right
pub record KeepsHistory (m : Monitor) (budget : ℕ) (h : List Event) (capacity : ℕ) (q : QueueLists) (state : List ℕ)
    (turn : Turn) (inside : List Bool) (spent granted : List ℕ) (entered : ℕ) : Type 0 where
  pub legal : IsLegal m h
  pub stands : shown_situation q state turn inside (not (is_empty h)) ≡ situation m h
  pub counts : (s : ℕ) → slice_index_or spent s 0 ≡ length (events_of h s)
  pub grants_counted : (s : ℕ) → slice_index_or granted s 0 ≡ granted_of h s
  pub enters_counted : entered ≡ enters_of h
  pub granted_seats : length granted ≡ m.seats
  pub within : (s : ℕ) → length (events_of h s) ≤ budget
  pub room : m.seats * budget ≤ capacity
  pub inside_seats : length inside ≡ m.seats
  pub spent_seats : length spent ≡ m.seats
  pub conds : m.conds ≤ most_conds
  pub unused : (c : ℕ) → m.conds ≤ c → queue_at q.conditions c ≡ []
  pub few : m.seats ≤ most_seats
  pub low : budget ≤ most_budget
  pub predicates : All (λ w. w.1 < m.object.predicates) q.untils
