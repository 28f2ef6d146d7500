-- How each kind of step changes a world, as functions of what it found
use Rattle.std.specs.Prelude.{ℕ, ◌+◌, ◌-◌, ◌%◌, ◌==◌, Bool, if◌then◌else◌}
use Rattle.monk_history.specs.declared.event.Next.{Next}
use Rattle.monk_world.specs.{Places.place_of, Update.update, Right.Whereabouts, Right.Nowhere, Right.With, World.World}
use Rattle.monk_world.specs.declared.place.Place.{Place}
use Rattle.monk_world.specs.declared.place.Place.TheVariants.{Ticket, Due, Active, Back, Passing, Inner}
use Rattle.monk_world.specs.declared.source.Source.{Source, TheVariants.Free, TheVariants.Granted, TheVariants.Called}
use Rattle.monk_world.specs.declared.home.Home.{Home}

-- Where the seat is after its step:

-- it drew ticket t, and found n not passed on
abbrev pub place_after_arrive : ℕ → ℕ → Place
place_after_arrive t n = if n == 0 then Due (Free t) else Ticket t

-- it looked whether its ticket was granted
abbrev pub place_after_ticket_look : ℕ → Bool → Place
place_after_ticket_look t found = if found then Due (Granted t) else Ticket t

-- it looked whether it was called, and counts its calls
abbrev pub place_after_seat_look : Bool → Place
place_after_seat_look found = if found then Due Called else Inner

-- how many grants of its own a seat has found, after a look
abbrev pub count_after_seat_look : ℕ → Bool → ℕ
count_after_seat_look count found = if found then count + 1 else count

-- it took itself off the ticket word, when t tickets were drawn and n not passed on
abbrev pub place_after_drop : ℕ → ℕ → Home → Place
place_after_drop t n home = if n == 1 then place_of home else Passing (t - n + 1) home

-- The world after the step of seat i:

-- arrive: one more ticket drawn and not passed on
abbrev pub after_arrive : World → ℕ → World
after_arrive w i = record w {
  drawn = w.drawn + 1;
  unpassed = w.unpassed + 1;
  place =
      update w.place i (place_after_arrive w.drawn w.unpassed);
}

-- look at the place of its ticket
abbrev pub after_ticket_look : World → ℕ → ℕ → Bool → World
after_ticket_look w i t found = record w { place = update w.place i (place_after_ticket_look t found) }

-- look at its own place, and count the call if one is there
abbrev pub after_seat_look : World → ℕ → Bool → World
after_seat_look w i found =
    record w {
      place = update w.place i (place_after_seat_look found);
      count =
          update w.count i (count_after_seat_look (w.count i) found);
    }

-- out: the floor comes out to the seat, which is due by q
abbrev pub after_floor_out : World → ℕ → Source → World
after_floor_out w i q = record w { place = update w.place i (Active q) }

-- the floor goes home with a choice
abbrev pub after_floor_in : World → ℕ → Next → Home → World
after_floor_in w i next home = record w { place = update w.place i (Back next home) }

-- drop: one ticket less is not passed on
abbrev pub after_drop : World → ℕ → Home → World
after_drop w i home =
    record w { unpassed = w.unpassed - 1; place = update w.place i (place_after_drop w.drawn w.unpassed home) }

-- grant a ticket through its place
abbrev pub after_ticket_grant : ℕ → World → ℕ → ℕ → Home → World
after_ticket_grant seats w i t home =
    record w { ticket_place = update w.ticket_place (t % seats) (t + 1); place = update w.place i (place_of home) }

-- call seat k through its place
abbrev pub after_seat_grant : World → ℕ → ℕ → Home → World
after_seat_grant w i k home =
    record w { seat_place = update w.seat_place k (w.seat_place k + 1); place = update w.place i (place_of home) }

-- Where the right is after a step, and which seat owns each ticket:

-- where the right is after an arrival
abbrev pub right_after_arrive : World → Whereabouts → ℕ → Whereabouts
right_after_arrive w right i = if w.unpassed == 0 then With i else right

-- who owns each ticket after an arrival
abbrev pub owner_after_arrive : World → (ℕ → ℕ) → ℕ → ℕ → ℕ
owner_after_arrive w owner i = if w.unpassed == 0 then owner else update owner w.drawn i

-- where the right is after a look
abbrev pub right_after_look : Whereabouts → ℕ → Bool → Whereabouts
right_after_look right i found = if found then With i else right

-- where the right is after a drop
abbrev pub right_after_drop : World → ℕ → Whereabouts
right_after_drop w i = if w.unpassed == 1 then Nowhere else With i
