-- A floor in the hands of a seat
use Rattle.std.specs.Prelude.{◌≡◌, ℕ, ◌≤◌, ◌<◌, false, List, [], ◌∷◌, ◌++◌, length}
use Rattle.monk_kinds.specs.declared.mode.Rules.{Rules}
use Rattle.monk_object.specs.Object.{Object}
use Rattle.monk_history.specs.Meaning.{Legal.IsLegal, Reasons.IsAllowed, Turn.turn, Turn.turn_by}
use Rattle.monk_history.specs.Meaning.Counts.{events_of, enters_of, left_of, is_enter}
use Rattle.monk_history.specs.Meaning.Events.{seat_of, next_of}
use Rattle.monk_history.specs.declared.event.{Event.Event, Turn.TheVariants.Owned}
use Rattle.monk_floor.specs.View.{FloorView, monitor_of}
use Rattle.monk_world.specs.StepTable.{out_event}
use Rattle.monk_world.specs.declared.source.Source.TheVariants.{Free, Granted}
use Rattle.monk_hall.specs.{Changes.source_from, Layout.floor_of, declared.record.SeatRecord.SeatRecord}

-- the history h begins with g
abbrev pub StartsWith : List Event → List Event → Type 0
StartsWith h g = (more : List Event) × (h ≡ g ++ more)

-- what a seat that is due finds when the floor comes out: a floor of this hall with a legal history. The history
-- begins with all that the seat has seen, and the seat's events in it are exactly its own. Its enter or resume is
-- allowed there, and it comes in turn by its ticket
pub record Finds (k : Rules) (o : Object) (r : SeatRecord) (f : FloorView) : Type 0 where
  pub is_floor : f ≡ floor_of r.setting f.history
  pub near : r.seat < f.seats
  pub legal : IsLegal (monitor_of k o f) f.history
  pub starts : StartsWith f.history r.seen
  pub mine : events_of f.history r.seat ≡ r.mine
  pub allowed : IsAllowed (monitor_of k o f) f.history (out_event r.seat (source_from r.place) (turn f.history))
  pub left : 2 ≤ left_of f.budget f.history r.seat
  pub within : length r.mine ≤ r.setting.budget
  pub first : (t : ℕ) → source_from r.place ≡ Free t → enters_of f.history ≡ t
  pub next : (t : ℕ) → source_from r.place ≡ Granted t → enters_of f.history ≡ t

-- an event of the seat that keeps the turn with it
pub record IsPrivate (i : ℕ) (e : Event) : Type 0 where
  pub seat : seat_of e ≡ i
  pub keeps : turn_by (seat_of e) (next_of e) ≡ Owned i
  pub enters : is_enter e ≡ false

-- each of these events is the seat's own, and keeps the turn with it
abbrev pub ArePrivate : ℕ → List Event → Type 0
ArePrivate i [] = Unit {0}
ArePrivate i (e ∷ es) = IsPrivate i e × ArePrivate i es

-- the floor in the hands of an active seat. Its history is what the seat found, the event with which it came in, and
-- then only events of the seat
pub record GoesOn (k : Rules) (o : Object) (r : SeatRecord) (f : FloorView) : Type 0 where
  pub is_floor : f ≡ floor_of r.setting f.history
  pub near : r.seat < f.seats
  pub legal : IsLegal (monitor_of k o f) f.history
  pub since : List Event
  pub goes : f.history ≡ (r.seen ++ out_event r.seat (source_from r.place) (turn r.seen) ∷ []) ++ since
  pub own : ArePrivate r.seat since
  pub owned : turn f.history ≡ Owned r.seat
  pub mine : events_of f.history r.seat ≡ r.mine ++ out_event r.seat (source_from r.place) (turn r.seen) ∷ since
  pub within : length (events_of f.history r.seat) ≤ r.setting.budget
