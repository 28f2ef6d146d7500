-- The text of a play: a line for its header and budget, and a line for each command of a seat.
pub mod Reading
pub mod Laws
use Rattle.std.specs.Prelude.{◌-◌, ℕ, ◌≤◌, ◌^◌, List, [], ◌∷◌, ◌++◌, codes}
use Rattle.std.specs.{List.flat_map, List.AllByRecursion, Fmt.decimal}
use Rattle.monk_kinds.specs.declared.mode.Pick.TheVariants as pick
use Rattle.monk_kinds.specs.declared.mode.Pick.{Pick}
use Rattle.monk_history.specs.Limits.{least_budget, most_budget}
use Rattle.monk_history.specs.Text.{Heading, IsHeading, part_words, Lines.line, Words.Word}
use Rattle.monk_world.specs.Records.{AreToldIn}
use Rattle.monk_world.specs.declared.command.Command.{Command}
use Rattle.monk_world.specs.declared.command.Command.TheVariants.{Arrive, Look, Out, Peek, Drop, Grant, Act, Leave}
use Rattle.monk_world.specs.declared.command.Command.TheVariants.{Wait, Signal, SignalLeave, Until, SignalAll}
use Rattle.monk_world.specs.declared.command.Command.TheVariants.{SignalWait}

-- ---- words

-- the word of a wish
abbrev pub pick_word : Pick → Word
pick_word pick.Entry = codes "entry"
pick_word pick.Waiter = codes "waiter"
pick_word pick.Signaller = codes "signaller"

-- the words of a command, without its seat
abbrev pub action_words : Command → List Word
action_words Arrive = codes "arrive" ∷ []
action_words Look = codes "look" ∷ []
action_words Out = codes "out" ∷ []
action_words Peek = codes "peek" ∷ []
action_words Drop = codes "drop" ∷ []
action_words Grant = codes "grant" ∷ []
action_words (Act op) = codes "act" ∷ decimal op.code ∷ decimal op.arg ∷ []
action_words (Leave p) = codes "leave" ∷ pick_word p ∷ []
action_words (Wait c p) = codes "wait" ∷ decimal c ∷ pick_word p ∷ []
action_words (Signal c p) = codes "signal" ∷ decimal c ∷ pick_word p ∷ []
action_words (SignalLeave c p) = codes "signal-leave" ∷ decimal c ∷ pick_word p ∷ []
action_words (Until q p) = codes "until" ∷ decimal q ∷ pick_word p ∷ []
action_words (SignalAll c) = codes "signal-all" ∷ decimal c ∷ []
action_words (SignalWait c d p) = codes "signal-wait" ∷ decimal c ∷ decimal d ∷ pick_word p ∷ []

-- a seat and what it is asked to do
abbrev pub command_words : ℕ × Command → List Word
command_words m = decimal m.0 ∷ action_words m.1

-- the words of a play's first line
abbrev pub play_words : Heading → ℕ → List Word
play_words h budget = codes "play" ∷ decimal h.version ∷ (part_words h ++ decimal budget ∷ [])

-- ---- the text

-- the text of a play
abbrev pub playtext : Heading → ℕ → List (ℕ × Command) → List ℕ
playtext h budget commands = line (play_words h budget) ++ flat_map (λ m. line (command_words m)) commands

-- ---- what has a text

-- each number of the command is in its range
abbrev pub ActionFits : Command → Type 0
ActionFits Arrive = Unit {0}
ActionFits Look = Unit {0}
ActionFits Out = Unit {0}
ActionFits Peek = Unit {0}
ActionFits Drop = Unit {0}
ActionFits Grant = Unit {0}
ActionFits (Act op) = (op.code ≤ 255) × (op.arg ≤ 2 ^ 32 - 1)
ActionFits (Leave p) = Unit {0}
ActionFits (Wait c p) = c ≤ 255
ActionFits (Signal c p) = c ≤ 255
ActionFits (SignalLeave c p) = c ≤ 255
ActionFits (Until q p) = q ≤ 255
ActionFits (SignalAll c) = c ≤ 255
ActionFits (SignalWait c d p) = (c ≤ 255) × (d ≤ 255)

-- each number of the command is one that a text can have
abbrev pub CommandFits : ℕ × Command → Type 0
CommandFits m = (m.0 ≤ 255) × ActionFits m.1

-- a play that has a text: its header and its commands are in range, for that version
pub record HasPlayText (h : Heading) (budget : ℕ) (commands : List (ℕ × Command)) : Type 0 where
  pub header_fits : IsHeading h
  pub some_budget : least_budget ≤ budget
  pub budget_fits : budget ≤ most_budget
  pub commands_fit : AllByRecursion CommandFits commands
  -- the version has each of them
  pub told : AreToldIn h.version commands
