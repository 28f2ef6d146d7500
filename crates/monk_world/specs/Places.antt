-- What contracts read of a place: numbers, so that each side condition is arithmetic
use Rattle.std.specs.Prelude.{ℕ, ◌+◌, ◌*◌, Bool, true, false}
use Rattle.monk_history.specs.declared.event.Next.{Next}
use Rattle.monk_history.specs.declared.event.Next.TheVariants.{Stay, Entry, Waiter, Signaller, Until}
use Rattle.monk_world.specs.declared.home.Home.TheVariants as home
use Rattle.monk_world.specs.declared.place.Place.{Place}
use Rattle.monk_world.specs.declared.place.Place.TheVariants.{Idle, Ticket, Due, Active, Back, Passing, Inner}
use Rattle.monk_world.specs.declared.source.Source.{Source, TheVariants.Free, TheVariants.Granted, TheVariants.Called}
use Rattle.monk_world.specs.declared.home.Home.{Home}

-- the stages of a seat's way through the monitor, in order. From due to passing it has the right
abbrev pub outside_stage : ℕ
outside_stage = 0

-- it has a ticket
abbrev pub ticketed_stage : ℕ
ticketed_stage = 1

-- it is next
abbrev pub due_stage : ℕ
due_stage = 2

-- it is active
abbrev pub active_stage : ℕ
active_stage = 3

-- it has taken the floor home, and must still hand the right on
abbrev pub back_stage : ℕ
back_stage = 4

-- it hands the monitor on to entry
abbrev pub passing_stage : ℕ
passing_stage = 5

-- it waits inside
abbrev pub inside_stage : ℕ
inside_stage = 6

-- the number of a place's stage
abbrev pub stage : Place → ℕ
stage Idle = outside_stage
stage (Ticket ticket) = ticketed_stage
stage (Due source) = due_stage
stage (Active source) = active_stage
stage (Back next home) = back_stage
stage (Passing ticket home) = passing_stage
stage Inner = inside_stage

-- a seat at that place has the right
abbrev pub HoldsRight : Place → Type 0
HoldsRight Idle = ⊥
HoldsRight (Ticket t) = ⊥
HoldsRight (Due q) = Unit {0}
HoldsRight (Active q) = Unit {0}
HoldsRight (Back next home) = Unit {0}
HoldsRight (Passing t home) = Unit {0}
HoldsRight Inner = ⊥

-- the ticket by which a seat came in, or 0 if it was called
abbrev pub ticket_of : Source → ℕ
ticket_of (Free ticket) = ticket
ticket_of (Granted ticket) = ticket
ticket_of Called = 0

-- the ticket with which a seat waits or is due, or which it has to grant
abbrev pub ticket : Place → ℕ
ticket Idle = 0
ticket (Ticket t) = t
ticket (Due source) = ticket_of source
ticket (Active source) = 0
ticket (Back next home) = 0
ticket (Passing t home) = t
ticket Inner = 0

-- how a seat got the right: it found the monitor free, by its ticket, or from a queue
abbrev pub free_source : ℕ
free_source = 1

-- it came in by a granted ticket
abbrev pub granted_source : ℕ
granted_source = 2

-- it was called from a queue
abbrev pub called_source : ℕ
called_source = 3

-- the number of how a seat came in
abbrev pub source_number : Source → ℕ
source_number (Free ticket) = free_source
source_number (Granted ticket) = granted_source
source_number Called = called_source

-- how a seat that is due or active got the right; 0 elsewhere
abbrev pub source : Place → ℕ
source Idle = 0
source (Ticket t) = 0
source (Due q) = source_number q
source (Active q) = source_number q
source (Back next home) = 0
source (Passing t home) = 0
source Inner = 0

-- a turn as a number: open, due to a seat, or owned by it
abbrev pub open_turn : ℕ
open_turn = 0

-- the number of the turn that is due to that seat
abbrev pub due_to : ℕ → ℕ
due_to j = 2 * j + 1

-- the number of the turn in which that seat is active
abbrev pub owned_by : ℕ → ℕ
owned_by j = 2 * j + 2

-- the number of the turn after a choice of another seat or of entry
abbrev pub turn_of_next : Next → ℕ
turn_of_next Stay = 0
turn_of_next Entry = 0
turn_of_next (Waiter j) = due_to j
turn_of_next (Signaller j) = due_to j
turn_of_next (Until j) = due_to j

-- the turn that a seat has chosen, if it has taken the floor home and not yet handed on the right; open elsewhere
abbrev pub back_turn : Place → ℕ
back_turn Idle = 0
back_turn (Ticket t) = 0
back_turn (Due q) = 0
back_turn (Active q) = 0
back_turn (Back next home) = turn_of_next next
back_turn (Passing t home) = 0
back_turn Inner = 0

-- whether a seat that hands the monitor on stays inside
abbrev pub stays_inside : Home → Bool
stays_inside home.Idle = false
stays_inside home.Inner = true

-- whether a seat came in from a queue
abbrev pub comes_from_queue : Source → Bool
comes_from_queue (Free t) = false
comes_from_queue (Granted t) = false
comes_from_queue Called = true

-- whether a seat that isn't active is in a queue of the history, or due from one
abbrev pub is_queued_at : Place → Bool
is_queued_at Idle = false
is_queued_at (Ticket t) = false
is_queued_at (Due q) = comes_from_queue q
is_queued_at (Active q) = false
is_queued_at (Back next home) = stays_inside home
is_queued_at (Passing t home) = stays_inside home
is_queued_at Inner = true

-- where a seat is after it has handed the monitor on
abbrev pub place_of : Home → Place
place_of home.Idle = Idle
place_of home.Inner = Inner
