-- The audit of a text that comes in pieces: what is owed, as a function of the bytes that are still to come.
use Rattle.std.specs.Prelude.{◌≡◌, ℕ, ◌+◌, ◌-◌, ◌<◌, ◌≤◌, ◌^◌, List, [], ◌++◌, All, length, Option, Some, None}
use Rattle.std.specs.Prelude.{Result, Ok, Err, true}
use Rattle.monk_object.specs.{Object.Object, Buffer.buffer_meaning, Book.book_meaning, Shop.shop_meaning}
use Rattle.monk_object.specs.{Flags.flags_meaning}
use Rattle.monk_history.specs.Text.Words.{◌>>=◌}
use Rattle.monk_history.specs.Meaning.Monitor.{Monitor, monitor}
use Rattle.monk_history.specs.declared.{text.fault.ReadFault.ReadFault, event.Event.Event}
use Rattle.monk_history.specs.Text.{Heading, Lines.lines_of, Lines.items_at, Lines.is_unended, Reading.event_under}
use Rattle.monk_audit.specs.Reading.{verdict_read, read_through, text_verdict, MakesNoObject}
use Rattle.monk_audit.specs.Replay.{replay_situation}
use Rattle.monk_audit.specs.declared.{course.Course.Course, verdict.Verdict.Verdict}
use Rattle.monk_audit.specs.declared.stage.Stage.{Stage}
use Rattle.monk_audit.specs.declared.stage.Stage.TheVariants.{Opening, Buffer, Book, Shop, Flags, Found}
use Rattle.monk_audit.specs.declared.text_verdict.TextVerdict.{TextVerdict, TheVariants.Judged}

-- the events of the bytes, after a header and `count` events
abbrev pub events_from : Heading → ℕ → List ℕ → Result (List Event) ReadFault
events_from h count bytes = items_at (event_under h) (2 ^ 25 - count) (count + 2) (lines_of bytes)

-- whether all of them can be read, and what is then found
abbrev pub found_from : {X : Type 0} → X → Heading → ℕ → List ℕ → Result X ReadFault
found_from found h count bytes = read_through (events_from h count bytes) >>= λ _. Ok found

-- the monitor over that object whose events are judged; its opening state has no part in what is still to come
abbrev pub monitor_of : Object → Course → Monitor
monitor_of o c = monitor c.rules c.header.seats c.header.conds o []

-- the verdict on the whole history, if the object is in that state
abbrev pub verdict_from_here : Object → Course → List ℕ → List ℕ → Result Verdict ReadFault
verdict_from_here o c state bytes =
    verdict_read (monitor_of o c) c.count (replay_situation c.replay state) (events_from c.header c.count bytes)

-- the verdict on a text, by the stage of its audit
abbrev pub judged_from_here : Object → Course → List ℕ → List ℕ → Result TextVerdict ReadFault
judged_from_here o c state bytes = verdict_from_here o c state bytes >>= λ v. Ok (Judged v)

-- the verdict on the bytes that are still to come
unfoldable pub owed_verdict : Stage → List ℕ → Result TextVerdict ReadFault
owed_verdict Opening bytes = text_verdict bytes
owed_verdict (Buffer c object) bytes = judged_from_here buffer_meaning c object bytes
owed_verdict (Book c object) bytes = judged_from_here book_meaning c object bytes
owed_verdict (Shop c object) bytes = judged_from_here shop_meaning c object bytes
owed_verdict (Flags c object) bytes = judged_from_here flags_meaning c object bytes
owed_verdict (Found h count found) bytes = found_from found h count bytes

-- the replay is of a monitor with that many seats and conditions, and there is room for the events
pub record IsSoundCourse (predicates : ℕ) (c : Course) : Type 0 where
  pub seats : length c.replay.inside.items ≡ c.header.seats
  pub few_seats : c.header.seats < 256
  pub conds : length c.replay.conditions.items ≡ c.header.conds
  pub preds : All (λ w. w.1 < predicates) c.replay.untils.items
  pub few : c.count ≤ 2 ^ 25

-- what the stage keeps is right
abbrev pub IsSound : Stage → Type 0
IsSound Opening = Unit {0}
IsSound (Buffer c object) = IsSoundCourse buffer_meaning.predicates c
IsSound (Book c object) = IsSoundCourse book_meaning.predicates c
IsSound (Shop c object) = IsSoundCourse shop_meaning.predicates c
IsSound (Flags c object) = IsSoundCourse flags_meaning.predicates c
IsSound (Found h count found) = count ≤ 2 ^ 25

-- how many stages are still to come
abbrev pub stages_left : Stage → ℕ
stages_left Opening = 2
stages_left (Buffer c object) = 1
stages_left (Book c object) = 1
stages_left (Shop c object) = 1
stages_left (Flags c object) = 1
stages_left (Found h count found) = 0

-- nothing more is judged: no stage is still to come
abbrev pub IsLast : Stage → Type 0
IsLast Opening = ⊥
IsLast (Buffer c object) = ⊥
IsLast (Book c object) = ⊥
IsLast (Shop c object) = ⊥
IsLast (Flags c object) = ⊥
IsLast (Found h count found) = Unit {0}

-- what the piece and the bytes after it were owed is now owed to the rest of the piece and the bytes after it
abbrev pub IsCarried : {X : Type 0} → (List ℕ → X) → List ℕ → (List ℕ → X) → List ℕ → Type 0
IsCarried old bytes new rest = (more : List ℕ) → old (bytes ++ more) ≡ new (rest ++ more)

-- the fault is owed, whatever comes after the piece
abbrev pub IsFaulty : {X : Type 0} → (List ℕ → Result X ReadFault) → List ℕ → ReadFault → Type 0
IsFaulty old bytes f = (more : List ℕ) → old (bytes ++ more) ≡ Err f

-- no memory is asked for
abbrev pub AsksForNone : Stage → List ℕ → Type 0
AsksForNone Opening bytes = MakesNoObject bytes
AsksForNone (Buffer c object) bytes = ⊥
AsksForNone (Book c object) bytes = ⊥
AsksForNone (Shop c object) bytes = ⊥
AsksForNone (Flags c object) bytes = ⊥
AsksForNone (Found h count found) bytes = Unit {0}

-- what the lines of a piece came to: the verdict if the last of them is forbidden; else all are
-- legal, and no further line ends
abbrev pub IsCourseStep : Option Verdict → List ℕ → List ℕ → (List ℕ → Result Verdict ReadFault)
    → (List ℕ → Result Verdict ReadFault) → (Verdict → List ℕ → Result Verdict ReadFault) → Type 0
IsCourseStep None bytes rest old new found = IsCarried old bytes new rest × (is_unended rest ≡ true)
IsCourseStep (Some v) bytes rest old new found = IsCarried old bytes (found v) rest

-- the same, if what was forbidden leads to another stage
abbrev pub IsJudgedStep : Option Stage → List ℕ → List ℕ → (List ℕ → Result TextVerdict ReadFault)
    → (List ℕ → Result TextVerdict ReadFault) → Type 0
IsJudgedStep None bytes rest old new = IsCarried old bytes new rest × (is_unended rest ≡ true)
IsJudgedStep (Some stage) bytes rest old new = IsCarried old bytes (owed_verdict stage) rest × IsSound stage
    × IsLast stage

-- the stage that follows, if one does; else no further line ends in what is left
abbrev pub IsStageStep : Option Stage → List ℕ → List ℕ → Stage → Stage → Type 0
IsStageStep None bytes rest old new = IsCarried (owed_verdict old) bytes (owed_verdict new) rest
    × (is_unended rest ≡ true) × IsSound new
IsStageStep (Some stage) bytes rest old new =
    IsCarried (owed_verdict old) bytes (owed_verdict stage) rest × IsSound stage × (stages_left stage < stages_left old)
    × (AsksForNone old bytes → AsksForNone stage rest)
