-- What each step of a run adds to the history
use Rattle.std.specs.Prelude.{◌≡◌, ℕ, ◌≤◌, ◌==◌, nat_le, ◌⊎◌, Bool, true, IsTrue, List, [], ◌∷◌, ◌++◌, map, if◌then◌else◌}
use Rattle.std.specs.List.{list_all}
use Rattle.monk_kinds.specs.{Kind.IsKind, declared.mode.Rules.Rules}
use Rattle.monk_object.specs.Object.{Object}
use Rattle.monk_history.specs.declared.event.Next.TheVariants as next
use Rattle.monk_history.specs.declared.event.Via.TheVariants as via
use Rattle.monk_history.specs.Text.{first_version}
use Rattle.monk_history.specs.Meaning.{Counts.enters_of, Counts.events_of, Events.seat_of}
use Rattle.monk_history.specs.declared.event.{Event.Event, Event.TheVariants.Enter, Via.Via}
use Rattle.monk_world.specs.declared.answer.Answer.TheVariants as answer
use Rattle.monk_world.specs.{Runs.Told, Runs.IsWellLed, Runs.opening_state, Sound.Sound, State.State, State.is_quiet}
use Rattle.monk_world.specs.{StepTable.command_version, StepTable.IsStep, Telling.command_of, Telling.IsLed}
use Rattle.monk_world.specs.declared.{answer.Answer.Answer, command.Command.Command}
use Rattle.monk_world.specs.declared.place.Place.{Place}
use Rattle.monk_world.specs.declared.place.Place.TheVariants.{Idle, Ticket, Due, Active, Back, Passing, Inner}
use Rattle.monk_world.specs.declared.source.Source.TheVariants.{Free, Granted, Called}

-- a step of a run, and what it appended to the history
pub record Recorded : Type 0 where
  pub told : Told
  pub events : List Event

-- at most one event, which is the seat's own
abbrev pub IsOwn : ℕ → List Event → Type 0
IsOwn i [] = Unit {0}
IsOwn i (e ∷ []) = seat_of e ≡ i
IsOwn i (e ∷ f ∷ more) = ⊥

-- a seat at that place may enter in that way, with ticket n
abbrev pub EntersWith : Place → Via → ℕ → Type 0
EntersWith (Due (Free t)) v n = (v ≡ via.Free) × (t ≡ n)
EntersWith (Due (Granted t)) v n = (v ≡ via.Handed) × (t ≡ n)
EntersWith (Due Called) v n = ⊥
EntersWith Idle v n = ⊥
EntersWith (Ticket t) v n = ⊥
EntersWith (Active q) v n = ⊥
EntersWith (Back x home) v n = ⊥
EntersWith (Passing t home) v n = ⊥
EntersWith Inner v n = ⊥

-- whether that version of the text has each of these events
abbrev pub are_in_version : ℕ → List Event → Bool
are_in_version version events = list_all (λ e. nat_le (first_version e) version) events

-- the command is a step, and the history grows by it as it should
pub record IsTaken (k : Rules) (o : Object) (s : State) (x : Recorded) (t : State) : Type 0 where
  pub is_step : IsStep k o s x.told.seat x.told.command x.told.answer t
  -- the history grows by at most one event, the seat's own; nothing else of the floor changes
  pub grows : t.floor ≡ record s.floor { history = s.floor.history ++ x.events }
  pub own : IsOwn x.told.seat x.events
  -- the enter with n enters before it is that of ticket n
  pub in_turn : (v : Via) → x.events ≡ Enter x.told.seat v ∷ []
      → EntersWith (s.world.place x.told.seat) v (enters_of s.floor.history)
  -- each version that has its command has what it appended: a later event comes only by its own command
  pub versions : (v : ℕ) → command_version x.told.command ≤ v → IsTrue (are_in_version v x.events)
  -- the right is in one place again, the history is legal, and a seat is active if, and only if, it owns the turn
  pub well_led : IsWellLed k o t
  -- if entry was chosen, nobody could have been chosen from a queue, or a ticket waits
  pub waited_for : x.told.answer ≡ answer.Chose next.Entry → (is_quiet k o t.floor ≡ true) ⊎ (2 ≤ s.world.unpassed)

-- the step of seat i by command c, with its answer
abbrev pub IsTakenBy : Rules → Object → State → ℕ → Command → Answer → State → Type 0
IsTakenBy k o s i c a t =
    (events : List Event)
    × IsTaken k o s (record { told = record { seat = i; command = c; answer = a }; events = events }) t

-- the commands are such steps, one after the other
abbrev pub IsRecorded : Rules → Object → State → List Recorded → State → Type 0
IsRecorded k o s [] t = t ≡ s
IsRecorded k o s (x ∷ xs) t = (u : State) × (IsTaken k o s x u) × (IsRecorded k o u xs t)

-- what the steps of seat j appended, in order
abbrev pub recorded_by : ℕ → List Recorded → List Event
recorded_by j [] = []
recorded_by j (x ∷ xs) = (if x.told.seat == j then x.events else []) ++ recorded_by j xs

-- the command that was recorded
abbrev pub recorded_command : Recorded → ℕ × Command
recorded_command x = command_of x.told

-- a run by these commands, with what each of them appended. The events of each seat are those that its own commands
-- appended, each once
pub record IsRecordedBy (k : Rules) (o : Object) (s : State) (commands : List (ℕ × Command)) (t : State) : Type 0 where
  pub steps : List Recorded
  pub by_commands : map recorded_command steps ≡ commands
  pub recorded : IsRecorded k o s steps t
  pub own : (j : ℕ) → events_of t.floor.history j ≡ events_of s.floor.history j ++ recorded_by j steps

-- that version of the text has the events of all these commands
abbrev pub AreToldIn : ℕ → List (ℕ × Command) → Type 0
AreToldIn version commands = IsTrue (list_all (λ c. nat_le (command_version c.1) version) commands)

-- a run by commands that a version has adds no event that the version doesn't have
abbrev pub KeepsVersion : State → List (ℕ × Command) → State → Type 0
KeepsVersion s commands t = (v : ℕ) → IsTrue (are_in_version v s.floor.history) → AreToldIn v commands
    → IsTrue (are_in_version v t.floor.history)

-- each step from a sound state is taken as it should be
abbrev pub StepsAreTaken : Type 0
StepsAreTaken = (k : Rules) (o : Object) (s : State) (i : ℕ) (c : Command) (a : Answer) (t : State) → IsKind k
    → Sound k o s → IsStep k o s i c a t → IsTakenBy k o s i c a t

-- each run from a sound state is recorded as it should be
abbrev pub RunsAreRecorded : Type 0
RunsAreRecorded = (k : Rules) (o : Object) (s : State) (commands : List (ℕ × Command)) (t : State) → IsKind k
    → Sound k o s → IsLed k o s commands t → IsRecordedBy k o s commands t

-- seat j drew ticket n in one of these steps
abbrev pub HasDrawn : ℕ → ℕ → List Recorded → Type 0
HasDrawn j n [] = ⊥
HasDrawn j n (x ∷ xs) = ((x.told.seat ≡ j) × ((found : ℕ) × (x.told.answer ≡ answer.Arrived n found))) ⊎ HasDrawn j n xs

-- a seat that enters with n enters before it has drawn ticket n, if the run began before any step
abbrev pub TicketsEnterInOrder : Type 0
TicketsEnterInOrder =
    (k : Rules) (o : Object) (opening : List ℕ) (seats conds budget : ℕ) (before : List Recorded) (s : State)
    (x : Recorded) (t : State) (v : Via)
    → IsKind k → IsRecorded k o (opening_state opening seats conds budget) before s → IsTaken k o s x t
    → x.events ≡ Enter x.told.seat v ∷ []
    → HasDrawn x.told.seat (enters_of s.floor.history) before
