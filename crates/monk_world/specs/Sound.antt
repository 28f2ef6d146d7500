-- What holds for every state that steps lead to
use Rattle.std.specs.Prelude.{◌≡◌, ℕ, ◌≤◌, true}
use Rattle.monk_kinds.specs.declared.mode.Rules.{Rules}
use Rattle.monk_object.specs.Object.{Object}
use Rattle.monk_history.specs.Meaning.{Counts.left_of, Counts.enters_of, Legal.IsLegal, Turn.turn}
use Rattle.monk_history.specs.declared.event.Turn.TheVariants.{Owned}
use Rattle.monk_floor.specs.View.{monitor_of}
use Rattle.monk_world.specs.declared.home.Home.TheVariants as home
use Rattle.monk_world.specs.{Enters.FitsEnters, Right.Whereabouts, Stands.Stands, Turns.turn_number}
use Rattle.monk_world.specs.Places.{stage, ticket, source, outside_stage, ticketed_stage, due_stage, active_stage}
use Rattle.monk_world.specs.Places.{granted_source}
use Rattle.monk_world.specs.State.{State, is_standing, is_quiet}
use Rattle.monk_world.specs.declared.place.Place.{Place}
use Rattle.monk_world.specs.declared.place.Place.TheVariants.{Idle, Ticket, Due, Active, Back, Passing, Inner}
use Rattle.monk_world.specs.declared.home.Home.{Home}

-- how many events a seat still needs inside
abbrev pub left_within : Home → ℕ
left_within home.Idle = 0
left_within home.Inner = 2

-- the fewest events that a seat at that place has left: those that it needs to get the floor and to leave
abbrev pub left_at : Place → ℕ
left_at Idle = 0
left_at (Ticket t) = 2
left_at (Due q) = 2
left_at (Active q) = 1
left_at (Back next home) = left_within home
left_at (Passing t home) = left_within home
left_at Inner = 2

-- the state is sound, with the right to be active there, and these owners of tickets
pub record IsSound (k : Rules) (o : Object) (s : State) (right : Whereabouts) (owner : ℕ → ℕ) : Type 0 where
  pub legal : IsLegal (monitor_of k o s.floor) s.floor.history
  pub stands : Stands s.floor.seats s.world right owner (turn_number (turn s.floor.history)) (is_standing k o s.floor)
      (is_quiet k o s.floor)
  -- the active seat owns the turn, and knows of somebody at the entry only if a ticket waits
  pub active : (j : ℕ) → stage (s.world.place j) ≡ active_stage → turn s.floor.history ≡ Owned j
  pub known : (j : ℕ) → stage (s.world.place j) ≡ active_stage → s.known j ≡ true → 2 ≤ s.world.unpassed
  -- the enters are those of the tickets, and a ticket that waited or was granted is not the first
  pub entered : FitsEnters s.world right (enters_of s.floor.history)
  pub late : (j : ℕ) → stage (s.world.place j) ≡ ticketed_stage → 1 ≤ ticket (s.world.place j)
  pub granted_late : (j : ℕ) → stage (s.world.place j) ≡ due_stage → source (s.world.place j) ≡ granted_source
      → 1 ≤ ticket (s.world.place j)
  pub left : (j : ℕ) → left_at (s.world.place j) ≤ left_of s.floor.budget s.floor.history j
  pub outside : (j : ℕ) → s.floor.seats ≤ j → stage (s.world.place j) ≡ outside_stage

-- the state is sound: its history is legal, and its words agree with it
pub record Sound (k : Rules) (o : Object) (s : State) : Type 0 where
  pub right : Whereabouts
  pub owner : ℕ → ℕ
  pub is_sound : IsSound k o s right owner
