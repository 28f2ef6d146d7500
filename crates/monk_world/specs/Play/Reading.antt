-- How the first line and the commands of a play are read from the words of their lines, and the whole play from its
-- text.
use Rattle.std.specs.Prelude.{◌-◌, ◌^◌, ℕ, List, [], ◌∷◌, Option, Some, None, Result, Ok, Err, nat_le, if◌then◌else◌, codes}
use Rattle.std.specs.Global.{Vec}
use Rattle.monk_kinds.specs.declared.mode.Pick.TheVariants as pick
use Rattle.monk_kinds.specs.declared.mode.Pick.{Pick}
use Rattle.monk_object.specs.declared.op.Op.{Op}
use Rattle.monk_history.specs.Text.Words.{◌>>=◌, Word, Taken, number_at, one_of, in_version, literal_at, end_at, with_rest}
use Rattle.monk_history.specs.{declared.text.fault.ReadFault.ReadFault, Limits.least_budget, Limits.most_budget}
use Rattle.monk_history.specs.Text.{Heading, Lines.lines_of, Lines.lines_at, Reading.parts_at}
use Rattle.monk_world.specs.declared.play.verb.CommandVerb.TheVariants as verb
use Rattle.monk_world.specs.Play.{pick_word}
use Rattle.monk_world.specs.declared.play.{head.PlayHead.PlayHead, verb.CommandVerb.CommandVerb}
use Rattle.monk_world.specs.declared.command.Command.{Command}
use Rattle.monk_world.specs.declared.command.Command.TheVariants.{Arrive, Look, Out, Peek, Drop, Grant, Act, Leave}
use Rattle.monk_world.specs.declared.command.Command.TheVariants.{Wait, Signal, SignalLeave, Until, SignalAll}
use Rattle.monk_world.specs.declared.command.Command.TheVariants.{SignalWait}

-- ---- a command

-- each wish once
abbrev pub picks : List Pick
picks = pick.Entry ∷ pick.Waiter ∷ pick.Signaller ∷ []

-- the word of a verb
abbrev pub play_verb_word : CommandVerb → Word
play_verb_word verb.Arrive = codes "arrive"
play_verb_word verb.Look = codes "look"
play_verb_word verb.Out = codes "out"
play_verb_word verb.Peek = codes "peek"
play_verb_word verb.Drop = codes "drop"
play_verb_word verb.Grant = codes "grant"
play_verb_word verb.Act = codes "act"
play_verb_word verb.Leave = codes "leave"
play_verb_word verb.Wait = codes "wait"
play_verb_word verb.Signal = codes "signal"
play_verb_word verb.SignalLeave = codes "signal-leave"
play_verb_word verb.Until = codes "until"
play_verb_word verb.SignalAll = codes "signal-all"
play_verb_word verb.SignalWait = codes "signal-wait"

-- the first version that has it
abbrev pub play_verb_version : CommandVerb → ℕ
play_verb_version verb.Arrive = 1
play_verb_version verb.Look = 1
play_verb_version verb.Out = 1
play_verb_version verb.Peek = 1
play_verb_version verb.Drop = 1
play_verb_version verb.Grant = 1
play_verb_version verb.Act = 1
play_verb_version verb.Leave = 1
play_verb_version verb.Wait = 1
play_verb_version verb.Signal = 1
play_verb_version verb.SignalLeave = 1
play_verb_version verb.Until = 1
play_verb_version verb.SignalAll = 2
play_verb_version verb.SignalWait = 2

-- each verb once
abbrev pub play_verbs : List CommandVerb
play_verbs = verb.Arrive ∷ verb.Look ∷ verb.Out ∷ verb.Peek ∷ verb.Drop ∷ verb.Grant ∷ verb.Act ∷ verb.Leave ∷ verb.Wait
    ∷ verb.Signal ∷ verb.SignalLeave ∷ verb.Until ∷ verb.SignalAll ∷ verb.SignalWait ∷ []

-- the verbs that a text of that version has
abbrev pub play_verbs_of : ℕ → List CommandVerb
play_verbs_of version = in_version play_verb_version version play_verbs

-- a code and an argument
unfoldable pub op_at : List Word → Taken Op
op_at ws = do
  c ← number_at 255 ws
  a ← number_at (2 ^ 32 - 1) c.1
  Ok (record { code = c.0; arg = a.0 }, a.1)

-- a condition or a predicate, and a wish
unfoldable pub cond_pick_at : List Word → Taken (ℕ × Pick)
cond_pick_at ws = do
  c ← number_at 255 ws
  p ← one_of pick_word picks c.1
  Ok ((c.0, p.0), p.1)

-- the command, by its verb and the words after it
unfoldable pub action_after : CommandVerb → List Word → Taken Command
action_after verb.Arrive ws = Ok (Arrive, ws)
action_after verb.Look ws = Ok (Look, ws)
action_after verb.Out ws = Ok (Out, ws)
action_after verb.Peek ws = Ok (Peek, ws)
action_after verb.Drop ws = Ok (Drop, ws)
action_after verb.Grant ws = Ok (Grant, ws)
action_after verb.Act ws = op_at ws >>= λ o. Ok (Act o.0, o.1)
action_after verb.Leave ws = one_of pick_word picks ws >>= λ p. Ok (Leave p.0, p.1)
action_after verb.Wait ws = cond_pick_at ws >>= λ c. Ok (Wait c.0.0 c.0.1, c.1)
action_after verb.Signal ws = cond_pick_at ws >>= λ c. Ok (Signal c.0.0 c.0.1, c.1)
action_after verb.SignalLeave ws = cond_pick_at ws >>= λ c. Ok (SignalLeave c.0.0 c.0.1, c.1)
action_after verb.Until ws = cond_pick_at ws >>= λ c. Ok (Until c.0.0 c.0.1, c.1)
action_after verb.SignalAll ws = number_at 255 ws >>= λ c. Ok (SignalAll c.0, c.1)
action_after verb.SignalWait ws =
    number_at 255 ws >>= λ c. cond_pick_at c.1 >>= λ d. Ok (SignalWait c.0 d.0.0 d.0.1, d.1)

-- a seat, a verb of the version, what the verb needs, and no further word
unfoldable pub command_at : ℕ → List Word → Taken (ℕ × Command)
command_at version ws = do
  s ← number_at 255 ws
  v ← one_of play_verb_word (play_verbs_of version) s.1
  a ← action_after v.0 v.1
  end ← end_at a.1
  Ok ((s.0, a.0), end.1)

-- ---- a first line

-- the head of a play by its parts
abbrev pub play_head : Heading → ℕ → PlayHead
play_head h budget = record { header = h; budget = budget }

-- the head of a play, if its budget is enough
abbrev pub play_head_of : Heading → ℕ → Option PlayHead
play_head_of h budget = if nat_le least_budget budget then Some (play_head h budget) else None

-- the head of a play that is read from those words
unfoldable pub play_head_at : List Word → Taken PlayHead
play_head_at ws = do
  p ← literal_at (codes "play") ws
  v ← number_at 255 p.1
  h ← parts_at v.0 v.1
  b ← number_at most_budget h.1
  end ← end_at b.1
  with_rest end.1 (play_head_of h.0 b.0)

-- ---- a text

-- a header, the budget of each seat, and the commands
abbrev pub Play : Type 0
Play = Heading × ℕ × List (ℕ × Command)

-- a play by its parts
abbrev pub play : Heading → ℕ → List (ℕ × Command) → Play
play h budget commands = (h, budget, commands)

-- the play that a function returned
abbrev pub play_view : Heading × ℕ × Vec (ℕ × Command) → Play
play_view r = play r.0 r.1 r.2.items

-- which verbs a command may have depends on the version of the first line
abbrev pub command_under : PlayHead → List Word → Taken (ℕ × Command)
command_under h ws = command_at h.header.version ws

-- the play that was read, or the fault
abbrev pub play_of_reading : Result (PlayHead × List (ℕ × Command)) ReadFault → Result Play ReadFault
play_of_reading (Ok x) = Ok (play x.0.header x.0.budget x.1)
play_of_reading (Err e) = Err e

-- the play that the text stands for, or its first fault
abbrev pub play_at : ℕ → List ℕ → Result Play ReadFault
play_at limit bytes = play_of_reading (lines_at play_head_at command_under limit (lines_of bytes))
