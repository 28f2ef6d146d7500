-- The events that a line shows
use Rattle.std.specs.Prelude.{List, [], ◌∷◌}
use Rattle.monk_object.specs.Object.{Object}
use Rattle.monk_history.specs.declared.event.Event.TheVariants as event
use Rattle.monk_history.specs.{declared.event.Event.Event, Meaning.Situation.Situation, Meaning.Step.after}
use Rattle.monk_logs.specs.declared.text.line.LogLine.{LogLine}
use Rattle.monk_logs.specs.declared.text.line.LogLine.TheVariants.{Enter, Resume, Lapse, Leave, Wait, Signal, Broadcast}
use Rattle.monk_logs.specs.declared.text.line.LogLine.TheVariants.{Until, Act}
use Rattle.monk_completion.specs.{Stand.due_from, Stand.via_now, Told.told_release}
use Rattle.monk_completion.specs.declared.pending.Pending.{Pending}
use Rattle.monk_completion.specs.declared.pending.Pending.TheVariants.{Settled, Half, Release}

-- the line's own event, if each event before it is known; the choice of a release is still to come
abbrev pub line_events : Situation → LogLine → List Event
line_events t (Enter s) = event.Enter s (via_now t) ∷ []
line_events t (Resume s) = event.Resume s (due_from t.turn) ∷ []
line_events t (Lapse s) = []
line_events t (Leave s) = []
line_events t (Wait s c) = []
line_events t (Signal s c) = []
line_events t (Broadcast s c) = event.SignalAll s c ∷ []
line_events t (Until s p) = []
line_events t (Act s op r) = event.Act s op r ∷ []

-- also the release before it, whose choice it shows
abbrev pub told_events : Object → Situation → Pending → LogLine → List Event
told_events o t Settled l = line_events t l
told_events o t (Half s c) l = []
told_events o t (Release e) l = told_release o t e l ∷ line_events (after o t (told_release o t e l)) l
