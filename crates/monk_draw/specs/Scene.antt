-- What a picture shows: the events, who goes on after each of them, and where each seat is between them
use Rattle.std.specs.Prelude.{ℕ, ◌+◌, Option, Some, None, List, length, map, slice_get, slice_range}
use Rattle.std.specs.{List.range_with_len, declared.alloc.Global.Global, declared.vec.Vec.Vec}
use Rattle.monk_history.specs.declared.event.Event.TheVariants as event
use Rattle.monk_history.specs.{Meaning.Events.next_of, Text.Heading}
use Rattle.monk_history.specs.declared.event.{Event.Event, Via.TheVariants.Handed}
use Rattle.monk_history.specs.declared.event.Next.{Next}
use Rattle.monk_history.specs.declared.event.Next.TheVariants.{Stay, Entry, Waiter, Signaller, Until}
use Rattle.monk_tell.specs.{Told.ShownStanding, Place.place_in, declared.place.SeatPlace.SeatPlace}
use Rattle.monk_tell.specs.Steps.{ShownStep, steps_between}
use Rattle.monk_draw.specs.Window.{not_shown, showable, shown_last}
use Rattle.monk_draw.specs.declared.{scene.Scene.Scene, window.Window.Window}

-- who comes in by an event because it was handed the monitor
abbrev pub handed : Option Event → Option ℕ
handed (Some (event.Enter s Handed)) = Some s
handed _ = None

-- who goes on by that choice: the seat that it names, or the one that comes in by the next event
abbrev pub goes_on_by : Option Next → Option Event → Option ℕ
goes_on_by None after = None
goes_on_by (Some Stay) after = None
goes_on_by (Some Entry) after = handed after
goes_on_by (Some (Waiter j)) after = Some j
goes_on_by (Some (Signaller j)) after = Some j
goes_on_by (Some (Until j)) after = Some j

-- who goes on after an event, if `after` is the next one
abbrev pub goes_on : Option Event → Option Event → Option ℕ
goes_on None after = None
goes_on (Some e) after = goes_on_by (next_of e) after

-- for each of the first `count` events the arrow, which leads to the seat that goes on after it
abbrev pub arrows_below : List Event → ℕ → List (Option ℕ)
arrows_below es count = map (λ k. goes_on (slice_get es k) (slice_get es (k + 1))) (range_with_len 0 count)

-- where each seat below that number is
abbrev pub places_below : ShownStanding → ℕ → List SeatPlace
places_below t seats = map (place_in t) (range_with_len 0 seats)

-- what is shown
pub record ShownScene : Type 0 where
  pub before : ℕ
  pub places : List (List SeatPlace)
  pub events : List Event
  pub arrows : List (Option ℕ)

-- the places as they are kept
abbrev pub row_of : Vec SeatPlace Global → List SeatPlace
row_of v = v.items

-- a scene as data
abbrev pub scene_of : Scene → ShownScene
scene_of s = record {
  before = s.before;
  places = map row_of s.places.items;
  events = s.events.items;
  arrows = s.arrows.items;
}

-- the scene of a history of `seats` seats, from its steps after `before` events, and from the events that are shown
abbrev pub history_scene : ℕ → List ShownStep → ℕ → List Event → ShownScene
history_scene seats steps before es = record {
  before = before;
  places = map (λ t. places_below t.standing seats) steps;
  events = es;
  arrows = arrows_below es (length es);
}

-- the scene of a history's events after `before` and up to number `last`
abbrev pub scene_between : Heading → List Event → ℕ → ℕ → ShownScene
scene_between h es before last =
    history_scene h.seats (steps_between h es before last) before (slice_range es before last)

-- the scene of the events that a window shows, if `forbidden` is the number of the forbidden event
abbrev pub window_scene : Heading → List Event → Option Window → Option ℕ → ShownScene
window_scene h es w forbidden =
    let last = shown_last w (showable forbidden (length es)) in scene_between h es (not_shown w last) last
