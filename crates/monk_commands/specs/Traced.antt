-- The trace of a play: a line for each command, with its answer, the words, the data and where each seat is after it
use Rattle.std.specs.Prelude.{◌≡◌, ℕ, zero, suc, ◌+◌, ◌==◌, List, [], ◌∷◌, ◌++◌, if◌then◌else◌, codes}
use Rattle.std.specs.{List.join_with_byte, Fmt.decimal}
use Rattle.monk_kinds.specs.{Names.rules_named, declared.mode.Rules.Rules}
use Rattle.monk_object.specs.{Object.Object, declared.name.ObjectName.ObjectName}
use Rattle.monk_object.specs.Names.{meaning_named, opening_named}
use Rattle.monk_history.specs.Meaning.{Monitor.Monitor, Monitor.monitor, Situation.Situation, Situation.situation}
use Rattle.monk_history.specs.Text.{Heading}
use Rattle.monk_tell.specs.{Told.queues_shown, Words.data_text, declared.place.SeatPlace.SeatPlace}
use Rattle.monk_tell.specs.Place.{in_queues, place_text}
use Rattle.monk_world.specs.{Play.command_words, Runs.opening_state, State.State, StepTable.IsStep}
use Rattle.monk_world.specs.Shown.{answer_words, is_granted, place_words}
use Rattle.monk_world.specs.declared.answer.Answer.{Answer}
use Rattle.monk_world.specs.declared.answer.Answer.TheVariants.{Arrived, Looked, Found, Now, Chose, GrantedTicket}
use Rattle.monk_world.specs.declared.answer.Answer.TheVariants.{GrantedSeat, Reply, Woke, Range, NoCall, NotNow, Tired}
use Rattle.monk_world.specs.declared.command.Command.{Command}

-- where seat j is, on which queue if it waits inside, and whether the grant that it looks for is there; a comma
-- before each but the first
abbrev pub seat_text : State → (ℕ → SeatPlace) → ℕ → List ℕ
seat_text s stands j =
    (if j == 0 then [] else codes ", ") ++ join_with_byte 32 (place_words (s.world.place j)) ++ place_text (stands j)
    ++ (if is_granted s j then codes " granted" else [])

-- the same for the seats below that
unfoldable pub places_text : State → (ℕ → SeatPlace) → ℕ → List ℕ
places_text s stands zero = []
places_text s stands (suc j) = places_text s stands j ++ seat_text s stands j

-- that the object refused an act, if the answer says so by the reply 0
abbrev pub refusal_text : Answer → List ℕ
refusal_text (Arrived ticket found) = []
refusal_text (Looked right) = []
refusal_text (Found found) = []
refusal_text Now = []
refusal_text (Chose next) = []
refusal_text (GrantedTicket ticket) = []
refusal_text (GrantedSeat seat) = []
refusal_text (Reply reply) = if reply == 0 then codes " (refused by the object)" else []
refusal_text (Woke served) = []
refusal_text Range = []
refusal_text NoCall = []
refusal_text NotNow = []
refusal_text Tired = []

-- a command for a seat, with its number and its answer
abbrev pub told_text : ℕ → ℕ × Command → Answer → List ℕ
told_text number c a =
    decimal number ++ codes " | " ++ join_with_byte 32 (command_words c) ++ codes " | "
    ++ join_with_byte 32 (answer_words a) ++ refusal_text a

-- the front of the line of the command of that number, by the world after it: what comes before the data
unfoldable pub line_front : ℕ → ℕ × Command → Answer → State → List ℕ
line_front number c a s =
    told_text number c a
    ++ codes " | t=" ++ decimal s.world.drawn ++ codes " n=" ++ decimal s.world.unpassed ++ codes " | "

-- the data of an object of that name
unfoldable pub data_part : ObjectName → List ℕ → List ℕ
data_part name state = codes "data:" ++ (data_text name state ++ codes " | ")

-- the whole line, by the situation of the monitor over the object of that name
abbrev pub trace_line : ObjectName → Monitor → ℕ → ℕ × Command → Answer → State → Situation → List ℕ
trace_line name m number c a s t =
    line_front number c a s ++ data_part name t.state
    ++ places_text s (in_queues (queues_shown m.kind.mode m.conds m.object t)) s.floor.seats ++ codes "\n"

-- the commands in turn, after `before` others, from state to state, each with its line, by the situation of the
-- monitor after its history
abbrev pub AreTraced : ObjectName → Monitor → ℕ → State → List (ℕ × Command) → State → List ℕ → Type 0
AreTraced name m before s [] t text = (t ≡ s) × (text ≡ [])
AreTraced name m before s (c ∷ cs) t text =
    (a : Answer) × ((u : State) × ((rest : List ℕ) × (IsStep m.kind m.object s c.0 c.1 a u
    × ((text ≡ trace_line name m (before + 1) c a u (situation m u.floor.history) ++ rest)
    × AreTraced name m (before + 1) u cs t rest))))

-- given what writing bytes means: the lines of all commands, from the start, are written
abbrev pub IsTracedBy : Rules → Object → List ℕ → Heading → ℕ → List (ℕ × Command) → (List ℕ → Type 0) → Type 0
IsTracedBy k o opening h budget commands Puts =
    (last : State) × ((text : List ℕ)
    × (AreTraced h.object (monitor k h.seats h.conds o opening) 0
    (opening_state opening h.seats h.conds budget) commands last
    text × Puts text))

-- the same by the kind and over the object that the header names
abbrev pub IsTraced : Heading → ℕ → List (ℕ × Command) → (List ℕ → Type 0) → Type 0
IsTraced h budget commands Puts =
    IsTracedBy (rules_named h.kind) (meaning_named h.object) (opening_named h.object h.size) h budget commands Puts
