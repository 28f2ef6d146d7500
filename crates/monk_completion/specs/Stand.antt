-- How a log is judged line by line, from the state of the monitor after the events that are known.
-- The contract of `complete` says that a log fits exactly if some legal history begins with it
use Rattle.std.specs.Prelude.{◌≡◌, ℕ, ◌+◌, ◌==◌, ◌&&◌, not, List, [], ◌∷◌, Some, Result, Ok, Err, if◌then◌else◌}
use Rattle.monk_object.specs.Object.{Object}
use Rattle.monk_history.specs.declared.event.Event.TheVariants as event
use Rattle.monk_history.specs.declared.event.From3.TheVariants as from
use Rattle.monk_history.specs.declared.event.Next.TheVariants as next
use Rattle.monk_history.specs.Meaning.{Monitor.Monitor, Monitor.monitor, Reasons.reason_before, Reasons.reason_in}
use Rattle.monk_history.specs.Meaning.{Release.MayCallIn, Situation.Situation, Step.after, Step.opening_situation}
use Rattle.monk_history.specs.Meaning.Events.{next_of, returns_at_once}
use Rattle.monk_history.specs.declared.event.{Event.Event, From3.From3}
use Rattle.monk_history.specs.declared.event.Via.{Via, TheVariants.Free, TheVariants.Handed}
use Rattle.monk_history.specs.declared.event.Turn.{Turn, TheVariants.Open, TheVariants.Due, TheVariants.Owned}
use Rattle.monk_logs.specs.declared.text.line.LogLine.{LogLine}
use Rattle.monk_logs.specs.declared.text.line.LogLine.TheVariants.{Enter, Resume, Lapse, Leave, Wait, Signal, Broadcast}
use Rattle.monk_logs.specs.declared.text.line.LogLine.TheVariants.{Until, Act}
use Rattle.monk_completion.specs.Blame.{blame_of, half_blame, lapse_blame, release_blame}
use Rattle.monk_completion.specs.declared.{blame.Blame.Blame, setting.MonitorSetting.MonitorSetting}
use Rattle.monk_completion.specs.declared.verdict.LogVerdict.{LogVerdict, TheVariants.Fits, TheVariants.Misfit}
use Rattle.monk_completion.specs.declared.pending.Pending.{Pending}
use Rattle.monk_completion.specs.declared.pending.Pending.TheVariants.{Settled, Half, Release}
use Rattle.monk_completion.specs.Told.{is_lapse, told_release}

-- the state of the monitor after the events that are known, and what is not yet known
pub record Stand : Type 0 where
  pub now : Situation
  pub pending : Pending

-- a situation, with what is not yet known
abbrev pub stand : Situation → Pending → Stand
stand t p = record { now = t; pending = p }

-- a situation in which all is known
abbrev pub stand_settled : Situation → Stand
stand_settled t = stand t Settled

-- the monitor of that setting; its opening state plays no part in what is still to come
abbrev pub monitor_in : MonitorSetting → Object → Monitor
monitor_in s o = monitor s.rules s.seats s.conds o []

-- ---- what is added

-- the stand after an event that is fully known, or the reason against it
abbrev pub settle : Monitor → Situation → Event → Result Stand Blame
settle m t e =
    if reason_in m t e == 0 then Ok (stand_settled (after m.object t e)) else Err (blame_of (reason_in m t e))

-- the stand after an event with something not yet known, or the reason against it
abbrev pub hold_over : Monitor → Situation → Event → Pending → Result Stand Blame
hold_over m t e p = if reason_before 0 m t e == 0 then Ok (stand t p) else Err (blame_of (reason_before 0 m t e))

-- the stand after a release, or the reason against it
abbrev pub release_over : Monitor → Situation → Event → Result Stand Blame
release_over m t e = hold_over m t e (Release e)

-- ---- a line

-- from which queue the turn is due
abbrev pub due_from : Turn → From3
due_from Open = from.Waiter
due_from (Due j q) = q
due_from (Owned j) = from.Waiter

-- how the next caller comes in: the first of all finds the monitor free
abbrev pub via_now : Situation → Via
via_now t = if t.begun then Handed else Free

-- the stand after a signal, or the reason against it; under immediate return it is half of an event
abbrev pub signal_over : Monitor → Situation → ℕ → ℕ → Result Stand Blame
signal_over m t s c = if returns_at_once m.kind.mode then hold_over m t (event.SignalLeave s c next.Stay) (Half s c)
    else release_over m t (event.Signal s c next.Stay)

-- if each event before it is known
abbrev pub line_settled : Monitor → Situation → LogLine → Result Stand Blame
line_settled m t (Enter s) = settle m t (event.Enter s (via_now t))
line_settled m t (Resume s) = settle m t (event.Resume s (due_from t.turn))
line_settled m t (Lapse s) = Err (lapse_blame m.seats s)
line_settled m t (Leave s) = release_over m t (event.Leave s next.Stay)
line_settled m t (Wait s c) = release_over m t (event.Wait s c next.Stay)
line_settled m t (Signal s c) = signal_over m t s c
line_settled m t (Broadcast s c) = settle m t (event.SignalAll s c)
line_settled m t (Until s p) = release_over m t (event.Until s p next.Stay)
line_settled m t (Act s op r) = settle m t (event.Act s op r)

-- after a signal that lacks its second line
abbrev pub line_half : Monitor → Situation → ℕ → ℕ → LogLine → Result Stand Blame
line_half m t s c (Enter j) = Err (half_blame m (Enter j))
line_half m t s c (Resume j) = Err (half_blame m (Resume j))
line_half m t s c (Lapse j) = Err (half_blame m (Lapse j))
line_half m t s c (Leave j) =
    if j == s then release_over m t (event.SignalLeave s c next.Stay) else Err (half_blame m (Leave j))
line_half m t s c (Wait j d) =
    if j == s then release_over m t (event.SignalWait s c d next.Stay) else Err (half_blame m (Wait j d))
line_half m t s c (Signal j d) = Err (half_blame m (Signal j d))
line_half m t s c (Broadcast j d) = Err (half_blame m (Broadcast j d))
line_half m t s c (Until j p) = Err (half_blame m (Until j p))
line_half m t s c (Act j op r) = Err (half_blame m (Act j op r))

-- after a release, whose choice the line shows; a lapse shows none, since no history has one
abbrev pub line_told : Monitor → Situation → Event → LogLine → Result Stand Blame
line_told m t e l =
    if not (is_lapse l) && reason_in m t (told_release m.object t e l) == 0
    then line_settled m (after m.object t (told_release m.object t e l)) l
    else Err (release_blame m t e l)

-- the stand after a line, by what was not yet known, or the reason against it
abbrev pub line_behind : Monitor → Situation → Pending → LogLine → Result Stand Blame
line_behind m t Settled l = line_settled m t l
line_behind m t (Half s c) l = line_half m t s c l
line_behind m t (Release e) l = line_told m t e l

-- only the choice of a release is not yet known: it may be called there, and its choice is `stay` until then
abbrev pub IsHeldOver : Monitor → Situation → Pending → Type 0
IsHeldOver m t Settled = Unit {0}
IsHeldOver m t (Half s c) = MayCallIn m t (event.SignalLeave s c next.Stay)
IsHeldOver m t (Release e) = MayCallIn m t e × (next_of e ≡ Some next.Stay)

-- what is not yet known in that situation, or the reason
abbrev pub stand_or : Situation → Result Pending Blame → Result Stand Blame
stand_or t (Ok p) = Ok (stand t p)
stand_or t (Err why) = Err why

-- ---- a log

-- the stand after one more line, or the reason against it
abbrev pub line_over : Monitor → Stand → LogLine → Result Stand Blame
line_over m s l = line_behind m s.now s.pending l

-- the verdict on the lines to come, after `n` that fit and led there
unfoldable pub verdict_from : Monitor → ℕ → Result Stand Blame → List LogLine → LogVerdict
verdict_from m n (Err why) log = Misfit n why
verdict_from m n (Ok s) [] = Fits
verdict_from m n (Ok s) (l ∷ log) = verdict_from m (n + 1) (line_over m s l) log

-- the stand before the first line
abbrev pub opening_stand : Monitor → Stand
opening_stand m = stand_settled (opening_situation m)

-- the verdict on a log in order of arrival
abbrev pub verdict_on : Monitor → List LogLine → LogVerdict
verdict_on m log = verdict_from m 0 (Ok (opening_stand m)) log
