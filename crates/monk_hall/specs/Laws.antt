-- What holds for a hall's table if its rule does, and so before and after every step
use Rattle.std.specs.Prelude.{◌≡◌, ◌≢◌, ℕ, ◌+◌, ◌==◌, ◌≤◌, true, false, List, [], ◌∷◌, ◌++◌, length, set, slice_index}
use Rattle.std.specs.Prelude.{Option, Some, None}
use mathlib.Core.Option.{none, some}
use lib.ListN.{get_elem?}
use Rattle.atomic_table.specs.Table as table
use Rattle.monk_kinds.specs.{Kind.IsKind, declared.mode.Rules.Rules, declared.mode.Pick.Pick}
use Rattle.monk_object.specs.Object.{Object}
use Rattle.monk_history.specs.Meaning.{Counts.granted_of, Counts.events_of, Events.is_stay, Legal.IsLegal}
use Rattle.monk_history.specs.declared.event.{Event.Event, Next.Next, Next.TheVariants.Entry}
use Rattle.monk_floor.specs.View.{FloorView, monitor_of}
use Rattle.monk_world.specs.declared.answer.Answer.TheVariants as answer
use Rattle.monk_world.specs.declared.command.Command.TheVariants as command
use Rattle.monk_world.specs.{OnePlace.IsInOnePlace, Runs.IsWellLed, State.is_quiet, StepTable.IsStep, StepTable.call_of}
use Rattle.monk_world.specs.Places.{HoldsRight, stage, ticket, back_turn, due_to, ticketed_stage, due_stage}
use Rattle.monk_world.specs.Places.{active_stage, passing_stage, inside_stage}
use Rattle.monk_world.specs.declared.{answer.Answer.Answer, command.Command.Command, home.Home.Home}
use Rattle.monk_world.specs.declared.place.Place.TheVariants.{Idle, Back}
use Rattle.monk_hall.specs.{Floors.ArePrivate, Floors.StartsWith, Records.View, Records.In, Rule.IsHall, Tells.Returns}
use Rattle.monk_hall.specs.Changes.{record_after_arrive, record_after_ticket_look, record_after_seat_look}
use Rattle.monk_hall.specs.Changes.{record_after_peek, record_after_floor_out, record_after_floor_in, record_after_drop}
use Rattle.monk_hall.specs.Changes.{record_after_grant}
use Rattle.monk_hall.specs.Layout.{tickets, unpassed, one_drawn, one_passed, ticket_word, seat_word, floor_of}
use Rattle.monk_hall.specs.Layout.{shown_state, shown_world}
use Rattle.monk_hall.specs.declared.{record.SeatRecord.SeatRecord, setting.Setting.Setting}
use Rattle.monk_hall.specs.declared.deed.Deed.TheVariants.{GrantTicket, CallSeat}

-- the state of a hall's table
abbrev pub HallState : Type 0
HallState = table.State (Option FloorView) View

-- the record of a seat, in some view of the table
pub record IsRecord (s : HallState) (r : SeatRecord) : Type 0 where
  pub id : ℕ
  pub view : View
  pub at : get_elem? s.views id ≡ some view
  pub there : In r view

-- a step of seat i leads from a table under the rule to another with the same history at home. What the tables show
-- is a step of the world, by this command and with this answer
pub record Takes (k : Rules) (o : Object) (c : Setting) (s : HallState) (h : IsHall k o c s) (i : ℕ) (m : Command)
    (a : Answer) (t : HallState) : Type 0 where
  pub hall : IsHall k o c t
  pub home : hall.2.past ≡ h.2.past
  pub step : IsStep k o (shown_state c s.words h.0 h.2.history) i m a (shown_state c t.words hall.0 hall.2.history)

-- a statement about a seat whose view has only its record
abbrev pub OfASeat : ((k : Rules) (o : Object) (c : Setting) (s : HallState) → IsHall k o c s → ℕ → SeatRecord
    → Type 0) → Type 0
OfASeat Step = (k : Rules) (o : Object) (c : Setting) → IsKind k
    → (s : HallState) (h : IsHall k o c s) (id : ℕ) (r : SeatRecord) → get_elem? s.views id ≡ some (r ∷ [])
    → Step k o c s h id r

-- the ticket word
abbrev pub first_word : HallState → ℕ
first_word s = slice_index s.words 0

-- step 1
abbrev pub ArriveSteps : Type 0
ArriveSteps = OfASeat (λ k o c s h id r.
    r.place ≡ Idle → length r.mine + 2 ≤ r.setting.budget
    → Takes k o c s h r.seat command.Arrive (answer.Arrived (tickets (first_word s)) (unpassed (first_word s)))
    (record {
      words = set s.words 0 (one_drawn (first_word s));
      homes = s.homes;
      views =
          set s.views id (record_after_arrive r (first_word s) ∷ []);
    }))

-- step 2
abbrev pub TicketLookSteps : Type 0
TicketLookSteps = OfASeat (λ k o c s h id r.
    stage r.place ≡ ticketed_stage
    → Takes k o c s h r.seat command.Look
    (answer.Looked (slice_index s.words (ticket_word c.seats (ticket r.place)) == ticket r.place + 1))
    (record s {
      views =
          set s.views id (record_after_ticket_look r (slice_index s.words (ticket_word c.seats (ticket r.place)))
          ∷ []);
    }))

-- step 3
abbrev pub SeatLookSteps : Type 0
SeatLookSteps = OfASeat (λ k o c s h id r.
    stage r.place ≡ inside_stage
    → Takes k o c s h r.seat command.Look (answer.Looked (slice_index s.words (seat_word r.seat) == r.count + 1))
    (record s { views = set s.views id (record_after_seat_look r (slice_index s.words (seat_word r.seat)) ∷ []) }))

-- step 4
abbrev pub PeekSteps : Type 0
PeekSteps = OfASeat (λ k o c s h id r.
    stage r.place ≡ active_stage
    → Takes k o c s h r.seat command.Peek (answer.Found (unpassed (first_word s)))
    (record s { views = set s.views id (record_after_peek r (first_word s) ∷ []) }))

-- step 5, out
abbrev pub FloorOutSteps : Type 0
FloorOutSteps = OfASeat (λ k o c s h id r.
    stage r.place ≡ due_stage
    → Takes k o c s h r.seat command.Out answer.Now
    (record {
      words = s.words;
      homes = set s.homes 0 none;
      views =
          set s.views id (record_after_floor_out r h.2.past ∷ []);
    }))

-- the wish of a command that releases
abbrev pub wish_of : Command → Option Pick
wish_of command.Arrive = None
wish_of command.Look = None
wish_of command.Out = None
wish_of command.Peek = None
wish_of command.Drop = None
wish_of command.Grant = None
wish_of (command.Act op) = None
wish_of (command.Leave pick) = Some pick
wish_of (command.Wait c pick) = Some pick
wish_of (command.Signal c pick) = Some pick
wish_of (command.SignalLeave c pick) = Some pick
wish_of (command.Until p pick) = Some pick
wish_of (command.SignalAll c) = None
wish_of (command.SignalWait c d pick) = Some pick

-- the active seat takes a floor home. To what is shown it adds events of the seat alone that keep the turn with it,
-- and then a step of the world, a release that chose another. The floor before that step is the one that the seat had
-- in its hands when it released. The step's command makes that release, with its wish and its choice
pub record BringsHome (k : Rules) (o : Object) (c : Setting) (s : HallState) (h : IsHall k o c s)
    (r : SeatRecord) (f : FloorView)
    (ret : Returns k o r f) (t : HallState) : Type 0 where
  pub hall : IsHall k o c t
  pub home : hall.2.past ≡ f.history
  pub since : List Event
  pub own : ArePrivate r.seat since
  pub legal : IsLegal (monitor_of k o (floor_of c (h.2.history ++ since))) (h.2.history ++ since)
  pub command : Command
  pub choice : Next
  pub away : is_stay (Some choice) ≡ false
  pub step : IsStep k o (shown_state c s.words h.0 (h.2.history ++ since)) r.seat command (answer.Chose choice)
      (shown_state c t.words hall.0 hall.2.history)
  pub before : ret.before ≡ floor_of c (h.2.history ++ since)
  pub call : call_of r.seat command ≡ Some ret.call
  pub wish : wish_of command ≡ Some ret.wish
  pub chosen : choice ≡ ret.choice

-- step 5, in
abbrev pub FloorInSteps : Type 0
FloorInSteps = OfASeat (λ k o c s h id r.
    (f : FloorView) → stage r.place ≡ active_stage → (ret : Returns k o r f)
    → BringsHome k o c s h r f ret
    (record {
      words = s.words;
      homes = set s.homes 0 (some (Some f));
      views =
          set s.views id (record_after_floor_in r f.history ∷ []);
    }))

-- step 6
abbrev pub DropSteps : Type 0
DropSteps = OfASeat (λ k o c s h id r.
    (to : Home) → r.place ≡ Back Entry to
    → Takes k o c s h r.seat command.Drop (answer.Found (unpassed (first_word s)))
    (record {
      words = set s.words 0 (one_passed (first_word s));
      homes =
          s.homes;
      views = set s.views id (record_after_drop r (first_word s) ∷ []);
    }))

-- step 7
abbrev pub TicketGrantSteps : Type 0
TicketGrantSteps = OfASeat (λ k o c s h id r.
    stage r.place ≡ passing_stage
    → Takes k o c s h r.seat command.Grant (answer.GrantedTicket (ticket r.place))
    (record {
      words = set s.words (ticket_word c.seats (ticket r.place)) (ticket r.place + 1);
      homes = s.homes;
      views =
          set s.views id (record_after_grant r (GrantTicket (ticket r.place)) ∷ []);
    }))

-- step 8
abbrev pub SeatGrantSteps : Type 0
SeatGrantSteps = OfASeat (λ k o c s h id r.
    (m : ℕ) → back_turn r.place ≡ due_to m
    → Takes k o c s h r.seat command.Grant (answer.GrantedSeat m)
    (record {
      words = set s.words (seat_word m) (granted_of r.seen m);
      homes = s.homes;
      views =
          set s.views id (record_after_grant r (CallSeat m) ∷ []);
    }))

-- the right to be active is in exactly one place
abbrev pub RightInOnePlace : Type 0
RightInOnePlace = (k : Rules) (o : Object) (c : Setting) (s : HallState) → (h : IsHall k o c s)
    → IsInOnePlace c.seats (shown_world s.words h.0)

-- if each seat is outside and has drawn no ticket, the monitor is free, and the next seat that arrives comes in
abbrev pub IdleIsFree : Type 0
IdleIsFree =
    (k : Rules) (o : Object) (c : Setting) (s : HallState) → IsHall k o c s
    → ((r : SeatRecord) → IsRecord s r → r.place ≡ Idle) → unpassed (first_word s) ≡ 0

-- the state that words and records show is well led: its history is legal, and turn and queues agree with the seats
abbrev pub ShowsWellLed : Type 0
ShowsWellLed = (k : Rules) (o : Object) (c : Setting) (s : HallState) → (h : IsHall k o c s)
    → IsWellLed k o (shown_state c s.words h.0 h.2.history)

-- two seats that have the right are the same, in one view
abbrev pub OneHasTheRight : Type 0
OneHasTheRight =
    (k : Rules) (o : Object) (c : Setting) (s : HallState) → IsHall k o c s
    → (r q : SeatRecord) → (x : IsRecord s r) → (y : IsRecord s q) → HoldsRight r.place → HoldsRight q.place
    → (r ≡ q) × (x.id ≡ y.id)

-- so two active seats are the same
abbrev pub OneIsActive : Type 0
OneIsActive =
    (k : Rules) (o : Object) (c : Setting) (s : HallState) → IsHall k o c s
    → (r q : SeatRecord) → (x : IsRecord s r) → (y : IsRecord s q) → stage r.place ≡ active_stage
    → stage q.place ≡ active_stage → (r ≡ q) × (x.id ≡ y.id)

-- an active seat knows of somebody at the entry only while at least two tickets are not passed on: the one in use,
-- and one that waits
abbrev pub KnownWaits : Type 0
KnownWaits =
    (k : Rules) (o : Object) (c : Setting) (s : HallState) → IsHall k o c s
    → (r : SeatRecord) → IsRecord s r → stage r.place ≡ active_stage → r.known ≡ true
    → 2 ≤ unpassed (slice_index s.words 0)

-- if a seat goes out by entry although somebody could have been chosen from a queue after its release, a ticket waits
abbrev pub EntryWaits : Type 0
EntryWaits =
    (k : Rules) (o : Object) (c : Setting) (s : HallState) → IsHall k o c s
    → (r : SeatRecord) (to : Home) → IsRecord s r → r.place ≡ Back Entry to → is_quiet k o (floor_of c r.seen) ≡ false
    → 2 ≤ unpassed (slice_index s.words 0)

-- the history at home is that of the floor in the slot. While a seat is active the slot is empty, and it is the one
-- that this seat found. It is legal and begins with all that each seat has seen. Its events of each seat are exactly
-- that seat's own
pub record IsHomeHistory (k : Rules) (o : Object) (c : Setting) (s : HallState) (past : List Event) : Type 0 where
  pub legal : IsLegal (monitor_of k o (floor_of c past)) past
  pub lent : (r : SeatRecord) → IsRecord s r → stage r.place ≡ active_stage → (s.homes ≡ none ∷ []) × (r.seen ≡ past)
  pub home : ((r : SeatRecord) → IsRecord s r → stage r.place ≢ active_stage)
      → s.homes ≡ some (Some (floor_of c past)) ∷ []
  pub starts : (r : SeatRecord) → IsRecord s r → StartsWith past r.seen
  pub own : (r : SeatRecord) → IsRecord s r → events_of past r.seat ≡ r.mine

-- a table under the rule has such a history
abbrev pub HasHomeHistory : Type 0
HasHomeHistory =
    (k : Rules) (o : Object) (c : Setting) (s : HallState) → IsHall k o c s
    → (past : List Event) × IsHomeHistory k o c s past
