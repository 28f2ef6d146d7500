-- Why a line can't come from a monitor: the first of nine tests that it fails
use Rattle.std.specs.Prelude.{ℕ, ◌==◌, nat_lt, Bool, true, ◌&&◌, ◌||◌, not, List, Option, Some, None, if◌then◌else◌, is_some, codes}
use Rattle.monk_kinds.specs.declared.mode.{Mode.Mode, Rules.Rules}
use Rattle.monk_history.specs.declared.event.Event.TheVariants as event
use Rattle.monk_history.specs.declared.event.From3.TheVariants as from
use Rattle.monk_history.specs.declared.event.Next.TheVariants as next
use Rattle.monk_history.specs.Meaning.{Monitor.Monitor, Situation.Situation, Turn.is_exit_of}
use Rattle.monk_history.specs.Meaning.Choice.{Queues, is_front, must_stay, queues_at}
use Rattle.monk_history.specs.Meaning.Reasons.{is_in_range, is_offered, is_right_reply}
use Rattle.monk_history.specs.Meaning.Events.{awaited_predicate, returns_at_once, seat_of, steps_back, waits_on}
use Rattle.monk_history.specs.declared.event.{Event.Event, Via.TheVariants.Handed}
use Rattle.monk_audit.specs.Replay.{is_front_in, stands_in}
use Rattle.monk_completion.specs.declared.blame.Blame.{Blame}
use Rattle.monk_completion.specs.declared.blame.Blame.TheVariants.{Range, Call, Turn, Place, Reply, Unserved, Served}
use Rattle.monk_completion.specs.declared.blame.Blame.TheVariants.{Order, Choice}
use Rattle.monk_logs.specs.declared.text.line.LogLine.{LogLine}
use Rattle.monk_logs.specs.declared.text.line.LogLine.TheVariants.{Enter, Resume, Lapse, Leave, Wait, Signal, Broadcast}
use Rattle.monk_logs.specs.declared.text.line.LogLine.TheVariants.{Until, Act}

-- ---- numbers and words

-- the number of a reason, from 1
abbrev pub blame_number : Blame → ℕ
blame_number Range = 1
blame_number Call = 2
blame_number Turn = 3
blame_number Place = 4
blame_number Reply = 5
blame_number Unserved = 6
blame_number Served = 7
blame_number Order = 8
blame_number Choice = 9

-- the word of a reason
abbrev pub blame_word : Blame → List ℕ
blame_word Range = codes "range"
blame_word Call = codes "call"
blame_word Turn = codes "turn"
blame_word Place = codes "place"
blame_word Reply = codes "reply"
blame_word Unserved = codes "unserved"
blame_word Served = codes "served"
blame_word Order = codes "order"
blame_word Choice = codes "choice"

-- ---- if each event before the line is known: the first test that its own event fails

-- the reason for the number of a test of events
abbrev pub blame_of : ℕ → Blame
blame_of n =
    if n == 1 then Range
    else if n == 2 then Call
    else if n == 3 then Turn
    else if n == 4 then Place
    else if n == 5 then Reply
    else Choice

-- the same for the tests of range and of the call alone, which look only at the event
abbrev pub early_blame_of : ℕ → Option Blame
early_blame_of n = if n == 1 then Some Range else if n == 2 then Some Call else None

-- no seat's timed wait runs out while somebody is active
abbrev pub lapse_blame : ℕ → ℕ → Blame
lapse_blame seats s = if nat_lt s seats then Turn else Range

-- ---- after a release whose choice is not known: the tests of a line that hold whatever it chose

-- the line's event, with any choice and any way in; a lapse is tested as a resume
abbrev pub line_event : Mode → LogLine → Event
line_event k (Enter s) = event.Enter s Handed
line_event k (Resume s) = event.Resume s from.Waiter
line_event k (Lapse s) = event.Resume s from.Waiter
line_event k (Leave s) = event.Leave s next.Stay
line_event k (Wait s c) = event.Wait s c next.Stay
line_event k (Signal s c) = if returns_at_once k then event.SignalLeave s c next.Stay else event.Signal s c next.Stay
line_event k (Broadcast s c) = event.SignalAll s c
line_event k (Until s p) = event.Until s p next.Stay
line_event k (Act s op r) = event.Act s op r

-- whether each number of the event is in the monitor's range
abbrev pub is_event_in_range : Monitor → Event → Bool
is_event_in_range m e = is_in_range m.seats m.conds m.object.codes m.object.predicates e

-- the first test of range or call that an event fails
abbrev pub early_blame : Monitor → Event → Option Blame
early_blame m e = if not (is_event_in_range m e) then Some Range else if not (is_offered m.kind e)
    then Some Call else None

-- whether the seat is inside and may be called back: the caller if it waits by the release, and
-- anybody else who is inside
abbrev pub may_be_called_back : Bool → Bool → Event → ℕ → Bool
may_be_called_back stays inside e s =
    not stays && (if s == seat_of e then is_some (waits_on e) || is_some (awaited_predicate e) else inside)

-- whether the seat may still be active: the caller of a signal, or of what must stay
abbrev pub may_be_active : Bool → Event → ℕ → Bool
may_be_active stays e s = s == seat_of e && (stays || is_some (steps_back e))

-- whether it may be the turn of the line's seat; `stays` says that the caller must stay
abbrev pub may_be_its_turn : Bool → (ℕ → Bool) → Event → LogLine → Bool
may_be_its_turn stays inside e (Enter s) = not stays
may_be_its_turn stays inside e (Resume s) = may_be_called_back stays (inside s) e s
may_be_its_turn stays inside e (Lapse s) = may_be_called_back stays (inside s) e s
may_be_its_turn stays inside e (Leave s) = may_be_active stays e s
may_be_its_turn stays inside e (Wait s c) = may_be_active stays e s
may_be_its_turn stays inside e (Signal s c) = may_be_active stays e s
may_be_its_turn stays inside e (Broadcast s c) = may_be_active stays e s
may_be_its_turn stays inside e (Until s p) = may_be_active stays e s
may_be_its_turn stays inside e (Act s op r) = may_be_active stays e s

-- whether the line doesn't bring in a seat that is inside after the release
abbrev pub is_line_in_place : (ℕ → Bool) → Event → LogLine → Bool
is_line_in_place inside e (Enter s) = not (inside s && not (is_exit_of s e))
is_line_in_place inside e (Resume s) = true
is_line_in_place inside e (Lapse s) = true
is_line_in_place inside e (Leave s) = true
is_line_in_place inside e (Wait s c) = true
is_line_in_place inside e (Signal s c) = true
is_line_in_place inside e (Broadcast s c) = true
is_line_in_place inside e (Until s p) = true
is_line_in_place inside e (Act s op r) = true

-- ---- and those that ask whether the release may have made this choice

-- the reason if a seat goes on: it is in none of the queues from which the release chooses, or not
-- at the front
abbrev pub resume_blame : Queues → ℕ → Blame
resume_blame q s = if not (stands_in q s) then Unserved else if not (is_front_in q s) then Order else Choice

-- the reason if the caller goes on at once, though it isn't the front of the signaller queue or waiters are above it
abbrev pub stay_blame : Rules → Queues → ℕ → Blame
stay_blame k q s = if nat_lt k.signaller k.waiter || is_front s q.signallers then Choice else Order

-- what is wrong with the choice that a line shows, by the queues that it was made from
abbrev pub choice_blame : Rules → Queues → LogLine → Blame
choice_blame k q (Enter s) = Choice
choice_blame k q (Resume s) = resume_blame q s
choice_blame k q (Lapse s) = Served
choice_blame k q (Leave s) = stay_blame k q s
choice_blame k q (Wait s c) = stay_blame k q s
choice_blame k q (Signal s c) = stay_blame k q s
choice_blame k q (Broadcast s c) = stay_blame k q s
choice_blame k q (Until s p) = stay_blame k q s
choice_blame k q (Act s op r) = stay_blame k q s

-- tests 3 to 9 of a line after a release that may not have made the choice that the line shows
abbrev pub late_blame : Monitor → Situation → Event → LogLine → Blame
late_blame m t e l =
    if not (may_be_its_turn (must_stay m.object t e) t.inside e l) then Turn
    else if not (is_line_in_place t.inside e l) then Place
    else if not (is_right_reply m.object t.state (line_event m.kind.mode l)) then Reply
    else choice_blame m.kind (queues_at m.object t e) l

-- the early reason if there is one, else the late one
abbrev pub first_blame : Option Blame → Blame → Blame
first_blame None late = late
first_blame (Some early) late = early

-- the reason if a release and the line that shows its choice don't go together
abbrev pub release_blame : Monitor → Situation → Event → LogLine → Blame
release_blame m t e l = first_blame (early_blame m (line_event m.kind.mode l)) (late_blame m t e l)

-- ---- after a signal that lacks its second line: a line that isn't its second one

-- the reason against a line that can't be the second line of a signal
abbrev pub half_blame : Monitor → LogLine → Blame
half_blame m l = if is_event_in_range m (line_event m.kind.mode l) then Call else Range
