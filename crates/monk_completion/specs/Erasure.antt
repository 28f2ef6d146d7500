-- What a recorder can write down of a history: it drops the choices, and how a seat came in or goes on
use Rattle.std.specs.Prelude.{List, [], ◌∷◌}
use Rattle.std.specs.List.{flat_map}
use Rattle.monk_history.specs.declared.event.Event.{Event}
use Rattle.monk_history.specs.declared.event.Event.TheVariants as event
use Rattle.monk_logs.specs.declared.text.line.LogLine.{LogLine}
use Rattle.monk_logs.specs.declared.text.line.LogLine.TheVariants.{Enter, Resume, Leave, Wait, Signal, Broadcast, Until, Act}

-- the lines of an event: a signal by which its caller leaves or waits has two
abbrev pub erasure_of : Event → List LogLine
erasure_of (event.Enter s via) = Enter s ∷ []
erasure_of (event.Act s op r) = Act s op r ∷ []
erasure_of (event.Leave s x) = Leave s ∷ []
erasure_of (event.Wait s c x) = Wait s c ∷ []
erasure_of (event.Signal s c x) = Signal s c ∷ []
erasure_of (event.SignalLeave s c x) = Signal s c ∷ Leave s ∷ []
erasure_of (event.Until s p x) = Until s p ∷ []
erasure_of (event.Resume s q) = Resume s ∷ []
erasure_of (event.SignalAll s c) = Broadcast s c ∷ []
erasure_of (event.SignalWait s c d x) = Signal s c ∷ Wait s d ∷ []

-- what a recorder writes for a history
abbrev pub erasure : List Event → List LogLine
erasure h = flat_map erasure_of h
