-- What is said about a judged log, in one line
use Rattle.std.specs.Prelude.{◌≡◌, ℕ, ◌+◌, ◌==◌, ◌&&◌, ◌||◌, Bool, not, List, [], ◌++◌, codes, slice_get, if◌then◌else◌}
use Rattle.std.specs.Prelude.{Option, Some, None, is_some, nat_lt, nat_le, option_map, min, ◌^◌, ◌-◌}
use Rattle.std.specs.Fmt.{decimal}
use Rattle.monk_object.specs.Names.{meaning_named, opening_named}
use Rattle.monk_logs.specs.Log.{line_seat, LogHeading}
use Rattle.monk_logs.specs.declared.{crossed.Crossed.Crossed, text.line.LogLine.LogLine}
use Rattle.monk_judge.specs.{Blame.blame_word, Reports.IsReport, Run.setting}
use Rattle.monk_judge.specs.declared.{holder.Holder.Holder, misfit.Misfit.Misfit, report.Report.Report}
use Rattle.monk_judge.specs.declared.{tally.Tally.Tally, waits_for.WaitsFor.WaitsFor}
use Rattle.monk_judge.specs.declared.blame.Blame.{Blame}
use Rattle.monk_judge.specs.declared.blame.Blame.TheVariants.{Range, Call, Held, NoLock, Asleep, Awake, Reply}
use Rattle.monk_commands.specs.declared.logs.finding.Finding.{Finding}

-- ---- the value

-- the seat of the line that misfits; 0 if none does
abbrev pub wrong_seat : Option Misfit → List LogLine → ℕ
wrong_seat None lines = 0
wrong_seat (Some f) lines = seat_or_0 (option_map line_seat (slice_get lines f.line))
  where
    seat_or_0 : Option ℕ → ℕ
    seat_or_0 None = 0
    seat_or_0 (Some s) = s

-- the report says about a log with that header what it should say
abbrev pub IsReportOf : List WaitsFor → LogHeading → List LogLine → Report → Type 0
IsReportOf means h lines r =
    IsReport (setting h.seats h.conds (meaning_named h.object)) (opening_named h.object h.size) lines means r

-- it is found for the log of a program that has ended by itself or hasn't
pub record IsFinding (means : List WaitsFor) (ended : Bool) (h : LogHeading) (lines : List LogLine)
    (f : Finding) : Type 0 where
  pub report : IsReportOf means h lines f.report
  pub seats : f.seats ≡ h.seats
  pub wrong : f.wrong_seat ≡ wrong_seat f.report.misfit lines
  pub is_ended : f.has_ended ≡ ended

-- ---- the status

-- whether somebody holds the lock at the end of a program that didn't end by itself
abbrev pub is_busy : Bool → Option Holder → Bool
is_busy ended holder = is_some holder && not ended

-- 1 if the log misfits, if a signal is missed, or if the program is busy at its end
abbrev pub finding_status : Finding → ℕ
finding_status f =
    if is_some f.report.misfit || is_some f.report.missed || is_busy f.has_ended f.report.holder then 1 else 0

-- ---- the words

-- the number in the file of the line with that index after the header, up to the greatest number
abbrev pub number : ℕ → ℕ
number index = min (index + 2) (2 ^ 64 - 1)

-- what follows the number of spurious wake-ups
abbrev pub wake_up_words : ℕ → List ℕ
wake_up_words n = if n == 1 then codes " spurious wake-up" else codes " spurious wake-ups"

-- the number of spurious wake-ups, and the line of the first
abbrev pub wake_ups : ℕ → ℕ → List ℕ
wake_ups n k = decimal n ++ (wake_up_words n ++ (codes ", first at " ++ decimal (number k)))

-- the same after these words, if there are some
abbrev pub spurious_words : List ℕ → ℕ → Option ℕ → List ℕ
spurious_words front n None = []
spurious_words front n (Some k) = front ++ wake_ups n k

-- who holds the lock at the end
abbrev pub busy_words : Bool → Holder → List ℕ
busy_words ended h =
    (if ended then codes "; busy at the end" else codes "; busy")
    ++ (codes ", seat " ++ (decimal h.seat ++ (codes " holds the lock since " ++ decimal (number h.since))))

-- how a log ends if nobody holds the lock, by its seats, how many sleep and how many were woken
abbrev pub idle_words : ℕ → ℕ → ℕ → List ℕ
idle_words seats asleep woken =
    if nat_lt 0 woken then codes "; owed, " ++ (decimal woken ++ codes " woken and not back")
    else if asleep == 0 then codes "; free"
    else if asleep == seats then codes "; dead, all " ++ (decimal asleep ++ codes " sleep")
    else codes "; open, " ++ (decimal asleep ++ (if asleep == 1 then codes " sleeps" else codes " sleep"))

-- how the program ends
abbrev pub end_words : Option Holder → Finding → List ℕ
end_words None f = idle_words f.seats f.report.asleep f.report.woken
end_words (Some h) f = busy_words f.has_ended h

-- a log that fits, and how its program ends
abbrev pub fitting_words : Finding → List ℕ
fitting_words f =
    codes "fits" ++ (spurious_words (codes " with ") f.report.tally.spurious f.report.tally.first_spurious
    ++ end_words f.report.holder f)

-- a sentence about a seat
abbrev pub about : ℕ → List ℕ → List ℕ
about s words = codes "seat " ++ (decimal s ++ words)

-- that a seat takes the lock which another holds
abbrev pub held_words : ℕ → Option Holder → List ℕ
held_words s None = about s (codes " takes the lock that another seat holds")
held_words s (Some h) =
    about s (codes " takes the lock, but seat " ++ (decimal h.seat
    ++ (codes " holds it since " ++ decimal (number h.since))))

-- what is wrong with a line of that seat
abbrev pub blame_words : Blame → ℕ → Option Holder → List ℕ
blame_words Range s holder = codes "the header has no such seat, condition or code"
blame_words Call s holder = codes "until is no call of a mutex"
blame_words Held s holder = held_words s holder
blame_words NoLock s holder = about s (codes " does this without the lock")
blame_words Asleep s holder = about s (codes " comes in, but it has not come back from its wait")
blame_words Awake s holder = about s (codes " comes back, but it does not wait")
blame_words Reply s holder = about s (codes " relied on what no longer held")

-- a log that misfits, and the spurious wake-ups before that
abbrev pub misfit_words : Misfit → Finding → List ℕ
misfit_words wrong f =
    codes "misfit at " ++ (decimal (number wrong.line) ++ (codes ": " ++ (blame_word wrong.why
    ++ (codes ", " ++ (blame_words wrong.why f.wrong_seat f.report.holder
    ++ spurious_words (codes "; ") f.report.tally.spurious f.report.tally.first_spurious)))))

-- whether it fits
abbrev pub verdict_words : Option Misfit → Finding → List ℕ
verdict_words None f = fitting_words f
verdict_words (Some wrong) f = misfit_words wrong f

-- a number after a word, if it isn't 0
abbrev pub counted : List ℕ → ℕ → List ℕ
counted word n = if n == 0 then [] else word ++ decimal n

-- the number of a line after a word, if there is one
abbrev pub placed : List ℕ → Option ℕ → List ℕ
placed word None = []
placed word (Some k) = word ++ decimal (number k)

-- the seats that a signal crossed on their way to sleep, and the last of these signals, which counts from 1 after the
-- header
abbrev pub crossed_words : Option Crossed → List ℕ
crossed_words None = []
crossed_words (Some c) =
    codes "; crossed " ++ (decimal c.seats ++ (codes " at " ++ decimal (min (c.line + 1) (2 ^ 64 - 1))))

-- how many threads must be overtaken before something is said about it
abbrev pub enough_overtaken : ℕ
enough_overtaken = 24

-- whether enough threads were overtaken, and none of them waited again
abbrev pub never_again : ℕ → ℕ → Bool
never_again overtaken again = again == 0 && nat_le enough_overtaken overtaken

-- that none of the threads that were overtaken waited again
abbrev pub overtaken_words : ℕ → List ℕ
overtaken_words n = codes "; never waits again (0 of " ++ (decimal n ++ codes " overtaken)")

-- these words, with the line of the first
abbrev pub with_first : List ℕ → ℕ → List ℕ
with_first words k = words ++ (codes ", first at " ++ decimal (number k))

-- the same, if there are enough of them, and none waited again
abbrev pub never_words : Tally → Option ℕ → List ℕ
never_words t None = []
never_words t (Some k) =
    if never_again t.overtaken t.again then with_first (overtaken_words t.overtaken) k else []

-- the counts of signals
abbrev pub tally_words : Tally → List ℕ
tally_words t =
    counted (codes "; served ") t.served ++ (counted (codes ", passed ") t.passed
    ++ (counted (codes "; unheard ") t.unheard ++ placed (codes ", last at ") t.last_unheard))

-- the line of a finding: whether the log fits, what is counted in it, and what else was found
abbrev pub finding_line : Finding → List ℕ
finding_line f =
    verdict_words f.report.misfit f ++ (tally_words f.report.tally
    ++ (placed (codes "; missed at ") f.report.missed ++ (crossed_words f.report.crossed
    ++ (never_words f.report.tally f.report.tally.first_not_again ++ codes "\n"))))
