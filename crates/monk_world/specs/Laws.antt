-- What each kind of step keeps
use Rattle.std.specs.Prelude.{◌≡◌, ◌≢◌, ℕ, ◌+◌, ◌%◌, ◌<◌, ◌≤◌, ◌==◌, ◌⊎◌, Bool, List, true, false}
use Rattle.monk_kinds.specs.{Kind.IsKind, declared.mode.Rules.Rules}
use Rattle.monk_object.specs.Object.{Object}
use Rattle.monk_history.specs.declared.event.Next.{Next, TheVariants.Entry}
use Rattle.monk_world.specs.{OnePlace.IsInOnePlace, Runs.opening_state, Sound.Sound, Stands.Stands}
use Rattle.monk_world.specs.{Stands.opening_world, State.State, StepTable.IsStep, World.World}
use Rattle.monk_world.specs.Places.{open_turn, due_to, turn_of_next, stays_inside}
use Rattle.monk_world.specs.Steps.{after_arrive, after_ticket_look, after_seat_look, after_floor_out, after_floor_in}
use Rattle.monk_world.specs.Steps.{after_drop, after_ticket_grant, after_seat_grant, right_after_arrive}
use Rattle.monk_world.specs.Steps.{owner_after_arrive, right_after_look, right_after_drop}
use Rattle.monk_world.specs.Right.{Whereabouts, Nowhere, AtTicket, AtSeat}
use Rattle.monk_world.specs.declared.{answer.Answer.Answer, command.Command.Command, home.Home.Home}
use Rattle.monk_world.specs.declared.{source.Source.Source}
use Rattle.monk_world.specs.declared.place.Place.TheVariants.{Idle, Ticket, Due, Active, Back, Passing, Inner}

-- what a step keeps, for every world that fits its history
abbrev pub Kept : (ℕ → World → Whereabouts → (ℕ → ℕ) → ℕ → (ℕ → Bool) → Bool → ℕ → Type 0) → Type 0
Kept Step =
    (seats : ℕ) (w : World) (right : Whereabouts) (owner : ℕ → ℕ) (turn : ℕ) (queued : ℕ → Bool) (quiet : Bool) (i : ℕ)
    → Stands seats w right owner turn queued quiet → Step seats w right owner turn queued quiet i

-- the opening world fits an empty history
abbrev pub OpeningStands : Type 0
OpeningStands = (seats : ℕ) → Stands seats opening_world Nowhere (λ t. 0) open_turn (λ j. false) true

-- an idle seat draws a ticket
abbrev pub ArriveKeeps : Type 0
ArriveKeeps = Kept (λ seats w right owner turn queued quiet i.
    w.place i ≡ Idle
    → Stands seats (after_arrive w i) (right_after_arrive w right i)
    (owner_after_arrive w owner i) turn queued quiet)

-- a seat with a ticket looks whether the place of its ticket has it
abbrev pub TicketLookKeeps : Type 0
TicketLookKeeps = Kept (λ seats w right owner turn queued quiet i.
    (t : ℕ) (found : Bool) → 0 < seats → w.place i ≡ Ticket t → (w.ticket_place (t % seats) == t + 1) ≡ found
    → Stands seats (after_ticket_look w i t found) (right_after_look right i found) owner turn queued quiet)

-- a seat inside looks whether its place has one call more than it has counted
abbrev pub SeatLookKeeps : Type 0
SeatLookKeeps = Kept (λ seats w right owner turn queued quiet i.
    (found : Bool) → w.place i ≡ Inner → (w.seat_place i == w.count i + 1) ≡ found
    → Stands seats (after_seat_look w i found) (right_after_look right i found) owner turn queued quiet)

-- the floor comes out to the seat that is due. The history may grow, but leaves the others in their queues
abbrev pub FloorOutKeeps : Type 0
FloorOutKeeps = Kept (λ seats w right owner turn queued quiet i.
    (q : Source) (turn_new : ℕ) (queued_new : ℕ → Bool) (quiet_new : Bool) → w.place i ≡ Due q
    → ((j : ℕ) → j ≢ i → queued_new j ≡ queued j)
    → Stands seats (after_floor_out w i q) right owner turn_new queued_new quiet_new)

-- the active seat lets the history grow, which leaves the others in their queues
abbrev pub ActiveKeeps : Type 0
ActiveKeeps = Kept (λ seats w right owner turn queued quiet i.
    (q : Source) (turn_new : ℕ) (queued_new : ℕ → Bool) (quiet_new : Bool) → w.place i ≡ Active q
    → ((j : ℕ) → j ≢ i → queued_new j ≡ queued j)
    → Stands seats w right owner turn_new queued_new quiet_new)

-- the active seat takes the floor home. If it chose a seat, that is another, in a queue. If it stays inside, it is
-- itself in a queue. If it chose entry, nobody could be chosen from a queue, or a ticket waits
abbrev pub FloorInKeeps : Type 0
FloorInKeeps = Kept (λ seats w right owner turn queued quiet i.
    (q : Source) (next : Next) (home : Home) (queued_new : ℕ → Bool) (quiet_new : Bool) → w.place i ≡ Active q
    → ((k : ℕ) → turn_of_next next ≡ due_to k → (k ≢ i) × (queued_new k ≡ true))
    → ((j : ℕ) → j ≢ i → queued_new j ≡ queued j)
    → queued_new i ≡ stays_inside home
    → (turn_of_next next ≡ open_turn → (quiet_new ≡ true) ⊎ (2 ≤ w.unpassed))
    → Stands seats (after_floor_in w i next home) right owner (turn_of_next next) queued_new quiet_new)

-- a seat that chose entry takes itself off the ticket word
abbrev pub DropKeeps : Type 0
DropKeeps = Kept (λ seats w right owner turn queued quiet i.
    (home : Home) → w.place i ≡ Back Entry home
    → Stands seats (after_drop w i home) (right_after_drop w i) owner turn queued quiet)

-- such a seat then grants the next ticket
abbrev pub TicketGrantKeeps : Type 0
TicketGrantKeeps = Kept (λ seats w right owner turn queued quiet i.
    (t : ℕ) (home : Home) → 0 < seats → w.place i ≡ Passing t home
    → Stands seats (after_ticket_grant seats w i t home) (AtTicket t) owner turn queued quiet)

-- a seat that chose another calls it
abbrev pub SeatGrantKeeps : Type 0
SeatGrantKeeps = Kept (λ seats w right owner turn queued quiet i.
    (next : Next) (k : ℕ) (home : Home) → w.place i ≡ Back next home → turn_of_next next ≡ due_to k
    → Stands seats (after_seat_grant w i k home) (AtSeat k) owner turn queued quiet)

-- so the right is in one place
abbrev pub StandsInOnePlace : Type 0
StandsInOnePlace =
    (seats : ℕ) (w : World) (right : Whereabouts) (owner : ℕ → ℕ) (turn : ℕ) (queued : ℕ → Bool) (quiet : Bool)
    → 0 < seats → Stands seats w right owner turn queued quiet → IsInOnePlace seats w

-- every step keeps a state sound
abbrev pub StepsStaySound : Type 0
StepsStaySound = (k : Rules) (o : Object) (s : State) (i : ℕ) (c : Command) (a : Answer) (t : State) → IsKind k
    → Sound k o s → IsStep k o s i c a t → Sound k o t

-- the opening state is sound
abbrev pub OpeningIsSound : Type 0
OpeningIsSound = (k : Rules) (o : Object) (opening : List ℕ) (seats conds budget : ℕ)
    → Sound k o (opening_state opening seats conds budget)

-- each command of each seat in each state has an answer and a next state
abbrev pub StepsAreAnswered : Type 0
StepsAreAnswered = (k : Rules) (o : Object) (s : State) (i : ℕ) (c : Command)
    → (a : Answer) × (t : State) × IsStep k o s i c a t

-- a step has one answer and one state after it
abbrev pub StepsAreDetermined : Type 0
StepsAreDetermined =
    (k : Rules) (o : Object) (s : State) (i : ℕ) (c : Command) (a b : Answer) (t u : State) → IsStep k o s i c a t
    → IsStep k o s i c b u → (a ≡ b) × (t ≡ u)
