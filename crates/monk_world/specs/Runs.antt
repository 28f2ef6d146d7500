-- Runs over lists of commands, and what they lead to
use Rattle.std.specs.Prelude.{◌≡◌, ◌≢◌, ℕ, ◌<◌, ◌≤◌, ◌↔◌, List, [], ◌∷◌}
use Rattle.std.specs.Prelude.{false}
use Rattle.monk_kinds.specs.{Kind.IsKind, declared.mode.Rules.Rules}
use Rattle.monk_object.specs.Object.{Object}
use Rattle.monk_history.specs.Meaning.{Counts.left_of, Counts.enters_of, Legal.IsLegal, Turn.turn}
use Rattle.monk_history.specs.declared.event.Turn.TheVariants.{Owned}
use Rattle.monk_floor.specs.View.{monitor_of, empty_floor}
use Rattle.monk_world.specs.{OnePlace.IsInOnePlace, Stands.opening_world, StepTable.IsStep}
use Rattle.monk_world.specs.Places.{stage, is_queued_at, active_stage, inside_stage}
use Rattle.monk_world.specs.State.{State, is_standing}
use Rattle.monk_world.specs.declared.{answer.Answer.Answer, command.Command.Command, place.Place.TheVariants.Due}
use Rattle.monk_world.specs.declared.source.Source.TheVariants.{Free, Granted}

-- a world before any step, over an object with this opening state
abbrev pub opening_state : List ℕ → ℕ → ℕ → ℕ → State
opening_state opening seats conds budget =
    record { world = opening_world; known = λ j. false; floor = empty_floor opening seats conds budget }

-- a step of seat `seat` by this command, with its answer
pub record Told : Type 0 where
  pub seat : ℕ
  pub command : Command
  pub answer : Answer

-- the commands in order, from state to state. After a refusal it goes on
abbrev pub IsRun : Rules → Object → State → List Told → State → Type 0
IsRun k o s [] t = t ≡ s
IsRun k o s (x ∷ xs) t = (u : State) × (IsStep k o s x.seat x.command x.answer u) × (IsRun k o u xs t)

-- what a run leads to
pub record IsWellLed (k : Rules) (o : Object) (s : State) : Type 0 where
  -- the history is legal
  pub legal : IsLegal (monitor_of k o s.floor) s.floor.history
  -- the right to be active is in exactly one place, and each ticket after the one in use has a seat that waits
  pub in_one_place : 0 < s.floor.seats → IsInOnePlace s.floor.seats s.world
  -- a seat is active if, and only if, it owns the turn
  pub active : (j : ℕ) → (stage (s.world.place j) ≡ active_stage) ↔ (turn s.floor.history ≡ Owned j)
  -- any other seat is in a queue of the history, or due from one, if, and only if, it is parked inside, on its way
  -- there, or called back from there
  pub queued : (j : ℕ) → stage (s.world.place j) ≢ active_stage
      → is_standing k o s.floor j ≡ is_queued_at (s.world.place j)
  -- the enter with t enters before it is that of ticket t
  pub enters_first : (j t : ℕ) → s.world.place j ≡ Due (Free t) → enters_of s.floor.history ≡ t
  pub enters_next : (j t : ℕ) → s.world.place j ≡ Due (Granted t) → enters_of s.floor.history ≡ t
  -- a seat that is parked inside has enough events left to resume and leave
  pub left : (j : ℕ) → stage (s.world.place j) ≡ inside_stage → 2 ≤ left_of s.floor.budget s.floor.history j

-- each run from the opening state leads to a well led state
abbrev pub RunsAreWellLed : Type 0
RunsAreWellLed =
    (k : Rules) (o : Object) (opening : List ℕ) (seats conds budget : ℕ) (told : List Told) (s : State)
    → IsKind k → IsRun k o (opening_state opening seats conds budget) told s → IsWellLed k o s
