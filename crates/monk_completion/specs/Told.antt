-- What the line after a release shows of its choice. A log doesn't say from which queue a seat goes
-- on. It needn't: a seat that may go on is in one queue alone
use Rattle.std.specs.Prelude.{ℕ, Bool, true, false, if◌then◌else◌}
use Rattle.monk_object.specs.Object.{Object}
use Rattle.monk_history.specs.declared.event.Next.TheVariants as next
use Rattle.monk_history.specs.Meaning.{Release.with_next, Situation.Situation}
use Rattle.monk_history.specs.Meaning.Choice.{Queues, queues_at, is_front}
use Rattle.monk_history.specs.declared.event.{Event.Event, Next.Next}
use Rattle.monk_logs.specs.declared.text.line.LogLine.{LogLine}
use Rattle.monk_logs.specs.declared.text.line.LogLine.TheVariants.{Enter, Resume, Lapse, Leave, Wait, Signal, Broadcast}
use Rattle.monk_logs.specs.declared.text.line.LogLine.TheVariants.{Until, Act}

-- whether a line says that a timed wait ran out, which no history does
abbrev pub is_lapse : LogLine → Bool
is_lapse (Enter s) = false
is_lapse (Resume s) = false
is_lapse (Lapse s) = true
is_lapse (Leave s) = false
is_lapse (Wait s c) = false
is_lapse (Signal s c) = false
is_lapse (Broadcast s c) = false
is_lapse (Until s p) = false
is_lapse (Act s op r) = false

-- the queue whose front the seat is
abbrev pub chosen_from : Queues → ℕ → Next
chosen_from q j =
    if is_front j q.waiters then next.Waiter j
    else if is_front j q.signallers then next.Signaller j
    else next.Until j

-- the choice of the release before a line, as the line shows it, by the queues that it was made from
abbrev pub told_next : Queues → LogLine → Next
told_next q (Enter s) = next.Entry
told_next q (Resume s) = chosen_from q s
told_next q (Lapse s) = next.Stay
told_next q (Leave s) = next.Stay
told_next q (Wait s c) = next.Stay
told_next q (Signal s c) = next.Stay
told_next q (Broadcast s c) = next.Stay
told_next q (Until s p) = next.Stay
told_next q (Act s op r) = next.Stay

-- the release, with the choice that the line shows
abbrev pub told_release : Object → Situation → Event → LogLine → Event
told_release o t e l = with_next (told_next (queues_at o t e) l) e
