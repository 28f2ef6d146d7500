-- Plays that can be played, and the answer to a play's text
use Rattle.std.specs.Prelude.{◌≡◌, ℕ, ◌<◌, ◌≤◌, ◌^◌, ◌⊎◌, List, length, None, Result, Ok, Err}
use Rattle.monk_kinds.specs.{declared.mode.Rules.Rules, Names.rules_named}
use Rattle.monk_object.specs.{Object.Object, Names.most, Names.meaning_named, Names.opening_named}
use Rattle.monk_history.specs.{Text.Heading, Text.HasText, Text.text, Meaning.Legal.IsLegal, Meaning.Monitor.monitor}
use Rattle.monk_history.specs.declared.{event.Event.Event, text.fault.ReadFault.ReadFault}
use Rattle.monk_world.specs.{declared.command.Command.Command, Play.HasPlayText, Play.playtext, Play.Reading.Play}
use Rattle.monk_world.specs.{Play.Reading.play_at, Records.AreToldIn, Runs.opening_state, State.State, Telling.IsLed}
use Rattle.monk_floor.specs.Making.{make_refusal}
use Rattle.monk_commands.specs.Answer.{unreadable, too_big}

-- the text of a play whose size is within the object's greatest
pub record IsPlayOf (input : List ℕ) (h : Heading) (budget : ℕ) (commands : List (ℕ × Command)) : Type 0 where
  pub has_text : HasPlayText h budget commands
  pub few : length commands ≤ 2 ^ 25
  pub whole : input ≡ playtext h budget commands
  pub size : h.size ≤ most h.object

-- what was read of a text can be played: a world can be made for it, whose version has its commands
pub record IsPlayable (p : Play) : Type 0 where
  pub in_range : make_refusal p.0.seats p.0.conds p.1 ≡ None
  pub told : AreToldIn p.0.version p.2
  pub few : length p.2 ≤ 2 ^ 25

-- the input is the text of a play
abbrev pub IsPlayText : List ℕ → Type 0
IsPlayText input = (h : Heading) × ((budget : ℕ) × ((commands : List (ℕ × Command)) × IsPlayOf input h budget commands))

-- these commands in turn, from the opening state, lead a monitor of these rules to this history, which is legal
pub record IsLedTo (k : Rules) (o : Object) (opening : List ℕ) (h : Heading) (budget : ℕ)
    (commands : List (ℕ × Command)) (events : List Event) : Type 0 where
  pub last : State
  pub is_led : IsLed k o (opening_state opening h.seats h.conds budget) commands last
  pub is_last : events ≡ last.floor.history
  pub legal : IsLegal (monitor k h.seats h.conds o opening) events
  -- its numbers are in range, and it is no longer than a text may be
  pub has_text : HasText h events
  pub few : length events ≤ 2 ^ 25

-- given what writing bytes means: the text of such a history is written
abbrev pub IsPlayedBy : Rules → Object → List ℕ → Heading → ℕ → List (ℕ × Command) → (List ℕ → Type 0) → Type 0
IsPlayedBy k o opening h budget commands Puts =
    (events : List Event) × (IsLedTo k o opening h budget commands events × Puts (text h events))

-- what is written for a play, from its header, its budget and its commands
abbrev pub Telling : Type 1
Telling = Heading → ℕ → List (ℕ × Command) → (List ℕ → Type 0) → Type 0

-- its history, by the kind and over the object that the header names
abbrev pub IsPlayed : Telling
IsPlayed h budget commands Puts =
    IsPlayedBy (rules_named h.kind) (meaning_named h.object) (opening_named h.object h.size) h budget commands Puts

-- the answer to a play that was read
abbrev pub IsPlayAnswer : Telling → Play → ℕ → (List ℕ → Type 0) → Type 0
IsPlayAnswer Tells p status Puts =
    ((p.0.size ≤ most p.0.object) × (status ≡ 0) × Tells p.0 p.1 p.2 Puts)
    ⊎ ((most p.0.object < p.0.size) × (status ≡ 2) × Puts too_big.text)

-- the same, or the answer to a text that is no play
abbrev pub IsAnswer : Telling → Result Play ReadFault → ℕ → (List ℕ → Type 0) → Type 0
IsAnswer Tells (Ok p) status Puts = IsPlayAnswer Tells p status Puts
IsAnswer Tells (Err f) status Puts = (status ≡ 2) × Puts (unreadable f).text

-- the answer to bytes
abbrev pub IsAnswerTo : Telling → List ℕ → ℕ → (List ℕ → Type 0) → Type 0
IsAnswerTo Tells input status Puts = IsAnswer Tells (play_at (2 ^ 25) input) status Puts
