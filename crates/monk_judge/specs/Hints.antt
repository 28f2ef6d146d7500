-- How a line changes what is known of overtaken threads
use Rattle.std.specs.Prelude.{◌≡◌, ℕ, ◌+◌, ◌*◌, ◌<◌, ◌==◌, ◌⊎◌, Bool, false, List, Option, Some, None, slice_index_or, if◌then◌else◌}
use Rattle.monk_logs.specs.Log.{line_seat}
use Rattle.monk_logs.specs.declared.text.line.LogLine.{LogLine}
use Rattle.monk_logs.specs.declared.text.line.LogLine.TheVariants.{Enter, Resume, Lapse, Leave, Wait, Signal, Broadcast}
use Rattle.monk_logs.specs.declared.text.line.LogLine.TheVariants.{Until, Act}
use Rattle.monk_judge.specs.{Holding.takes_lock, Overtaken.GoesOnBy, Overtaken.waits_in}
use Rattle.monk_judge.specs.declared.place.Place.{Place}
use Rattle.monk_judge.specs.declared.place.Place.TheVariants.{Outside, Active, Waiting, Woken, RanOut}
use Rattle.monk_judge.specs.declared.overtaking.{Back.Back, Hints.Hints}

-- the condition on which a thread there was woken
abbrev pub woken_on : Place → Option ℕ
woken_on Outside = None
woken_on Active = None
woken_on (Waiting c) = None
woken_on (Woken c) = Some c
woken_on (RanOut c) = None

-- what is known of a seat after a signal to the condition
abbrev pub other_than : ℕ → Option ℕ → Option ℕ
other_than c None = None
other_than c (Some d) = if d == c then None else Some d

-- on which condition a seat in that place may be overtaken by the visit of the line, after it
abbrev pub passing_after : LogLine → Place → Option ℕ → Option ℕ
passing_after (Enter s) p was = woken_on p
passing_after (Resume s) p was = None
passing_after (Lapse s) p was = None
passing_after (Leave s) p was = was
passing_after (Wait s c) p was = was
passing_after (Signal s c) p was = other_than c was
passing_after (Broadcast s c) p was = other_than c was
passing_after (Until s p) q was = was
passing_after (Act s op r) p was = was

-- what is known of seat j after seat s is back
abbrev pub unmarked : ℕ → ℕ → Option ℕ → Option ℕ
unmarked s j was = if j == s then None else was

-- whether a seat waits on a condition, by a table with 256 conditions for each seat
abbrev pub waits_by : List Bool → ℕ → ℕ → Bool
waits_by table s c = slice_index_or table (256 * s + c) false

-- the table is that of the log
abbrev pub AreWaiters : List LogLine → List Bool → Type 0
AreWaiters log table = (s c : ℕ) → s < 256 → c < 256 → waits_by table s c ≡ waits_in log s c

-- what is known of a seat after a visit of seat s that may have overtaken it
abbrev pub marked : List LogLine → ℕ → Option ℕ → Option ℕ → Option ℕ
marked log s None was = was
marked log s (Some c) was = if waits_in log s c then Some c else was

-- on which condition seat j was overtaken, after the line
abbrev pub passed_after : LogLine → List LogLine → ℕ → Option ℕ → Option ℕ → Option ℕ
passed_after (Enter s) log j passing was = unmarked s j was
passed_after (Resume s) log j passing was = unmarked s j was
passed_after (Lapse s) log j passing was = unmarked s j was
passed_after (Leave s) log j passing was = marked log s passing was
passed_after (Wait s c) log j passing was = was
passed_after (Signal s c) log j passing was = was
passed_after (Broadcast s c) log j passing was = was
passed_after (Until s p) log j passing was = was
passed_after (Act s op r) log j passing was = was

-- the condition that is known of the line's seat, if it takes the lock
abbrev pub passed_of : LogLine → List (Option ℕ) → Option ℕ
passed_of l seats = if takes_lock l then slice_index_or seats (line_seat l) None else None

-- the named line, unless it is `line`
abbrev pub without : Option ℕ → ℕ → Option ℕ
without None line = None
without (Some first) line = if first == line then None else Some first

-- the first of the two that is named
abbrev pub first_of : Option ℕ → ℕ → Option ℕ
first_of None line = Some line
first_of (Some first) line = Some first

-- the thread that came back last does what the line says: it waits on that condition again, or it doesn't
abbrev pub Answers : LogLine → Back → Hints → Hints → Type 0
Answers l b old new = (new.back ≡ None) × (new.many ≡ old.many)
    × (((l ≡ Wait b.seat b.cond) × (new.again ≡ old.again + 1)
    × (new.first_not_again ≡ without old.first_not_again b.line))
    ⊎ ((l ≡ Wait b.seat b.cond → ⊥) × (new.again ≡ old.again) × (new.first_not_again ≡ old.first_not_again)))

-- it answers, if the line is its own and no refused act
abbrev pub AnswersBy : LogLine → Option Back → Hints → Hints → Type 0
AnswersBy l None old new = new ≡ old
AnswersBy l (Some b) old new = (GoesOnBy l b.seat × Answers l b old new) ⊎ ((GoesOnBy l b.seat → ⊥) × (new ≡ old))

-- the thread that came back last answers, if the line is its own and no refused act
abbrev pub AnswersOwn : LogLine → Hints → Hints → Type 0
AnswersOwn l old new = AnswersBy l old.back old new

-- the line's thread comes back; it was overtaken if a condition is named
abbrev pub ComesBack : LogLine → ℕ → Option ℕ → Hints → Hints → Type 0
ComesBack l i None old new = new ≡ old
ComesBack l i (Some c) old new = (new.back ≡ Some (record { seat = line_seat l; cond = c; line = i }))
    × (new.many ≡ old.many + 1) × (new.again ≡ old.again)
    × (new.first_not_again ≡ first_of old.first_not_again i)
