-- How each step changes the record of the seat that takes it, by what the step found
use Rattle.std.specs.Prelude.{ℕ, ◌+◌, ◌==◌, nat_le, if◌then◌else◌, false, List, [], ◌∷◌, ◌++◌, drop, length, Option, Some, None}
use Rattle.std.specs.List.{last_or}
use Rattle.monk_history.specs.declared.event.Next.TheVariants as next
use Rattle.monk_history.specs.Meaning.{Counts.events_of, Events.next_of, Events.is_way_out}
use Rattle.monk_history.specs.declared.event.{Event.Event, Next.Next}
use Rattle.monk_world.specs.declared.home.Home.TheVariants as home
use Rattle.monk_world.specs.{Places.ticket, Places.place_of, Steps.place_after_arrive, Steps.place_after_ticket_look}
use Rattle.monk_world.specs.{Steps.place_after_seat_look, Steps.count_after_seat_look, Steps.place_after_drop}
use Rattle.monk_world.specs.declared.source.Source.{Source, TheVariants.Granted, TheVariants.Called}
use Rattle.monk_world.specs.declared.home.Home.{Home}
use Rattle.monk_world.specs.declared.place.Place.{Place}
use Rattle.monk_world.specs.declared.place.Place.TheVariants.{Idle, Ticket, Due, Active, Back, Passing, Inner}
use Rattle.monk_hall.specs.declared.deed.Deed.TheVariants as deed
use Rattle.monk_hall.specs.{Layout.tickets, Layout.unpassed, Records.View, Records.the, Records.tail}
use Rattle.monk_hall.specs.declared.{deed.Deed.Deed, record.SeatRecord.SeatRecord}

-- how a seat gets the right that waits at this place, or how it got it if it is due or active
abbrev pub source_from : Place → Source
source_from Idle = Called
source_from (Ticket t) = Granted t
source_from (Due q) = q
source_from (Active q) = q
source_from (Back x to) = Called
source_from (Passing t to) = Called
source_from Inner = Called

-- where a seat goes after it has handed the right on
abbrev pub home_at : Place → Home
home_at Idle = home.Idle
home_at (Ticket t) = home.Idle
home_at (Due q) = home.Idle
home_at (Active q) = home.Idle
home_at (Back x to) = to
home_at (Passing t to) = to
home_at Inner = home.Idle

-- the choice, if one was made; otherwise to stay
abbrev pub choice_in : Option Next → Next
choice_in None = next.Stay
choice_in (Some x) = x

-- the place of a seat that has taken the floor home with this release
abbrev pub back_after : Option Event → Place
back_after None = Idle
back_after (Some e) = Back (choice_in (next_of e)) (if is_way_out e then home.Idle else home.Inner)

-- it drew a ticket
abbrev pub record_after_arrive : SeatRecord → ℕ → SeatRecord
record_after_arrive r found =
    record r {
      place = place_after_arrive (tickets found) (unpassed found);
      did = r.did ++ deed.Arrive (tickets found) (unpassed found) ∷ [];
    }

-- it looked at the place of its ticket
abbrev pub record_after_ticket_look : SeatRecord → ℕ → SeatRecord
record_after_ticket_look r found =
    record r {
      place = place_after_ticket_look (ticket r.place) (found == ticket r.place + 1);
      did = r.did ++ deed.LookForTicket (found == ticket r.place + 1) ∷ [];
    }

-- it looked at its own place
abbrev pub record_after_seat_look : SeatRecord → ℕ → SeatRecord
record_after_seat_look r found =
    record r {
      place = place_after_seat_look (found == r.count + 1);
      count = count_after_seat_look r.count (found == r.count + 1);
      did = r.did ++ deed.LookForCall (found == r.count + 1) ∷ [];
    }

-- while active, it looked whether somebody waits for entry
abbrev pub record_after_peek : SeatRecord → ℕ → SeatRecord
record_after_peek r found =
    record r { known = nat_le 2 (unpassed found); did = r.did ++ deed.Peek (unpassed found) ∷ [] }

-- the floor came out to it, with this history
abbrev pub record_after_floor_out : SeatRecord → List Event → SeatRecord
record_after_floor_out r history =
    record r {
      place = Active (source_from r.place);
      known = false;
      seen = history;
      did = r.did ++ deed.FloorOut ∷ [];
    }

-- what a history has after the history `before`, with which it begins
abbrev pub since : List Event → List Event → List Event
since before history = drop (length before) history

-- it took the floor home, with this history
abbrev pub record_after_floor_in : SeatRecord → List Event → SeatRecord
record_after_floor_in r history =
    record r {
      place = back_after (last_or None history);
      seen = history;
      mine = events_of history r.seat;
      did = r.did ++ deed.FloorIn (since r.seen history) ∷ [];
    }

-- it took itself off the ticket word
abbrev pub record_after_drop : SeatRecord → ℕ → SeatRecord
record_after_drop r found =
    record r {
      place = place_after_drop (tickets found) (unpassed found) (home_at r.place);
      did = r.did ++ deed.Drop (unpassed found) ∷ [];
    }

-- it handed the right on by this grant
abbrev pub record_after_grant : SeatRecord → Deed → SeatRecord
record_after_grant r grant = record r { place = place_of (home_at r.place); did = r.did ++ grant ∷ [] }

-- the longer of two histories
abbrev pub longer : List Event → List Event → List Event
longer a b = if nat_le (length a) (length b) then b else a

-- two views in one. This costs the first seat a step
abbrev pub view_after_join : View → View → View
view_after_join v w = record (the v) { did = (the v).did ++ deed.Meet ∷ [] } ∷ the w ∷ []

-- both have seen as much. This costs the second seat a step
abbrev pub view_after_compare : View → View
view_after_compare v =
    record (the v) { seen = longer (the v).seen (the (tail v)).seen }
    ∷ record (the (tail v)) {
      seen = longer (the v).seen (the (tail v)).seen;
      did = (the (tail v)).did ++ deed.Meet ∷ [];
    } ∷ []
