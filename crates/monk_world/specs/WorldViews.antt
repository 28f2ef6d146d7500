-- What a world stores, read as a state
use Rattle.std.specs.Prelude.{◌≡◌, ℕ, Bool, List, false, slice_index_or}
use Rattle.monk_floor.specs.View.{FloorView}
use Rattle.monk_world.specs.{State.State, World.World}
use Rattle.monk_world.specs.declared.{place.Place.Place, place.Place.TheVariants.Idle, words.WorldWords.WorldWords}

-- the words: the places of tickets, what belongs to each seat, and the floor
pub record WorldView : Type 0 where
  pub drawn : ℕ
  pub unpassed : ℕ
  pub ticket_places : List ℕ
  pub seat_places : List ℕ
  pub places : List Place
  pub counts : List ℕ
  pub known : List Bool
  pub floor : FloorView

-- the state that a world's view shows
abbrev pub state_of_view : WorldView → State
state_of_view v = record {
  world = record {
    drawn = v.drawn;
    unpassed = v.unpassed;
    ticket_place = λ i. slice_index_or v.ticket_places i 0;
    seat_place = λ j. slice_index_or v.seat_places j 0;
    place = λ j. slice_index_or v.places j Idle;
    count = λ j. slice_index_or v.counts j 0;
  };
  known = λ j. slice_index_or v.known j false;
  floor = v.floor;
}

-- the view of the words with a floor
abbrev pub view_in : WorldWords → FloorView → WorldView
view_in w f = record {
  drawn = w.drawn;
  unpassed = w.unpassed;
  ticket_places = w.ticket_places.items;
  seat_places = w.seat_places.items;
  places = w.places.items;
  counts = w.counts.items;
  known = w.known.items;
  floor = f;
}

-- the state of the words with a floor
abbrev pub state_in : WorldWords → FloorView → State
state_in w f = state_of_view (view_in w f)

-- the world that the words show
abbrev pub world_on : WorldWords → World
world_on w = record {
  drawn = w.drawn;
  unpassed = w.unpassed;
  ticket_place = λ i. slice_index_or w.ticket_places.items i 0;
  seat_place = λ j. slice_index_or w.seat_places.items j 0;
  place = λ j. slice_index_or w.places.items j Idle;
  count = λ j. slice_index_or w.counts.items j 0;
}

-- with any floor: the words now show this world, for as many seats, and what each seat knows has not changed
pub record Shows (old : WorldWords) (world : World) (new : WorldWords) : Type 0 where
  pub state : (f : FloorView) → state_in new f ≡ record (state_in old f) { world = world }
  pub seats : new.seats ≡ old.seats

-- with any floor: the words now show this world, and who knows of somebody at the entry
pub record ShowsKnown (old : WorldWords) (world : World) (known : ℕ → Bool) (new : WorldWords) : Type 0 where
  pub state : (f : FloorView) → state_in new f ≡ record { world = world; known = known; floor = f }
  pub seats : new.seats ≡ old.seats
