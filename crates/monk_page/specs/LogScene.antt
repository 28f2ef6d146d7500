-- The scene of a run that tells a log: a column for each line
use Rattle.std.specs.Prelude.{◌-◌, ℕ, List, [], ◌∷◌, length, map}
use Rattle.std.specs.List.{flat_map, slice_range}
use Rattle.monk_history.specs.declared.event.Event.TheVariants as event
use Rattle.monk_history.specs.declared.event.{Event.Event, From3.TheVariants.Waiter, Via.TheVariants.Free}
use Rattle.monk_history.specs.declared.event.Next.TheVariants.{Stay, Entry}
use Rattle.monk_draw.specs.Scene.{ShownScene, arrows_below}
use Rattle.monk_tell.specs.declared.place.SeatPlace.TheVariants as seat
use Rattle.monk_tell.specs.declared.place.SeatPlace.{SeatPlace}
use Rattle.monk_judge.specs.{Judged.after_all, Run.Setting, Run.State}
use Rattle.monk_judge.specs.Followed.{behind_lines, followed, places_below, telling}
use Rattle.monk_judge.specs.declared.place.Place.{Place}
use Rattle.monk_judge.specs.declared.place.Place.TheVariants.{Outside, Active, Waiting, Woken, RanOut}
use Rattle.monk_judge.specs.declared.step.Step.{Step, TheVariants.Tells, TheVariants.RunsOut, TheVariants.WakesUnasked}
use Rattle.monk_logs.specs.declared.text.line.LogLine.TheVariants as line
use Rattle.monk_logs.specs.declared.text.line.LogLine.{LogLine}

-- a line of a log as an event: a line that lets the lock go as if the entry queue went on, a signal
-- as if its caller stayed
abbrev pub line_event : LogLine → Event
line_event (line.Enter s) = event.Enter s Free
line_event (line.Resume s) = event.Resume s Waiter
line_event (line.Lapse s) = event.Enter s Free
line_event (line.Leave s) = event.Leave s Entry
line_event (line.Wait s c) = event.Wait s c Entry
line_event (line.Signal s c) = event.Signal s c Stay
line_event (line.Broadcast s c) = event.SignalAll s c
line_event (line.Until s p) = event.Until s p Entry
line_event (line.Act s op r) = event.Act s op r

-- a thread's place as a seat's: a woken one is in the waiter queue, one whose wait ran out still waits
abbrev pub seat_place : Place → SeatPlace
seat_place Outside = seat.Outside
seat_place Active = seat.Active
seat_place (Waiting c) = seat.Condition c
seat_place (Woken c) = seat.Waiter
seat_place (RanOut c) = seat.Condition c

-- where the first threads are
abbrev pub row : ℕ → State → List SeatPlace
row seats x = map seat_place (places_below seats x.place)

-- the same after a step that tells a line
abbrev pub rows_behind : ℕ → Step × State → List (List SeatPlace)
rows_behind seats (Tells l w, x) = row seats x ∷ []
rows_behind seats (RunsOut s, x) = []
rows_behind seats (WakesUnasked s, x) = []

-- before those steps, and after each of their lines
abbrev pub rows : Setting → State → List Step → List (List SeatPlace)
rows m x steps = row m.seats x ∷ flat_map (rows_behind m.seats) (followed m x steps)

-- the scene of the lines after the first `before`, up to the last that is shown; the steps are a run from that state
abbrev pub run_scene : Setting → State → List Step → List LogLine → ℕ → ℕ → ShownScene
run_scene m x steps lines before last =
    let events = map line_event (slice_range lines before last) in
    let shown = telling (last - before) (behind_lines before steps) in
    record {
      before = before;
      places = rows m (after_all m x (telling before steps)) shown;
      events = events;
      arrows = arrows_below events (length events);
    }
