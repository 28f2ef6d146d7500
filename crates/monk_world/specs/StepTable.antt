-- The steps as a relation between state, seat, command, answer and next state
use Rattle.std.specs.Prelude.{◌≡◌, ℕ, ◌+◌, ◌%◌, ◌==◌, nat_le, nat_lt, Bool, true, false, not, ◌&&◌, ◌||◌, Option, Some, None}
use Rattle.std.specs.Prelude.{length, if◌then◌else◌}
use Rattle.std.specs.Option.{option_map_or}
use Rattle.monk_kinds.specs.declared.mode.{Pick.Pick, Rules.Rules}
use Rattle.monk_object.specs.Object.{Object}
use Rattle.monk_history.specs.declared.event.Next.TheVariants as next
use Rattle.monk_history.specs.declared.event.Turn.TheVariants as turn
use Rattle.monk_history.specs.declared.event.Via.TheVariants as via
use Rattle.monk_history.specs.Meaning.{Conditions.condition, Counts.left_of, Events.is_stay, Monitor.data_of, Turn.turn}
use Rattle.monk_history.specs.Meaning.{Reasons.is_in_range, Reasons.is_offered, Release.with_next, Release.choice_of}
use Rattle.monk_history.specs.declared.event.{From3.From3, From3.TheVariants.Waiter as FromWaiter, Next.Next, Turn.Turn}
use Rattle.monk_history.specs.declared.event.Event.{Event}
use Rattle.monk_history.specs.declared.event.Event.TheVariants.{Enter, Act, Leave, Wait, Signal, SignalLeave, Until}
use Rattle.monk_history.specs.declared.event.Event.TheVariants.{Resume, SignalAll, SignalWait}
use Rattle.monk_history.specs.Text.{first_version}
use Rattle.monk_floor.specs.View.{FloorView, monitor_of, stands_of}
use Rattle.monk_world.specs.declared.answer.Answer.TheVariants as answer
use Rattle.monk_world.specs.declared.command.Command.TheVariants as command
use Rattle.monk_world.specs.declared.home.Home.TheVariants as home
use Rattle.monk_world.specs.{Update.update, Places.stage, Places.outside_stage, Places.ticketed_stage, Places.due_stage}
use Rattle.monk_world.specs.{Places.active_stage, Places.passing_stage, Places.inside_stage}
use Rattle.monk_world.specs.Steps.{after_arrive, after_ticket_look, after_seat_look, after_floor_out, after_floor_in}
use Rattle.monk_world.specs.Steps.{after_drop, after_ticket_grant, after_seat_grant}
use Rattle.monk_world.specs.declared.{answer.Answer.Answer, command.Command.Command, home.Home.Home}
use Rattle.monk_world.specs.declared.source.Source.{Source, TheVariants.Free, TheVariants.Granted, TheVariants.Called}
use Rattle.monk_world.specs.declared.place.Place.{Place}
use Rattle.monk_world.specs.declared.place.Place.TheVariants.{Idle, Ticket, Due, Active, Back, Passing, Inner}
use Rattle.monk_world.specs.State.{State, with_event}

-- the call on the floor that seat i makes, written with `stay` and reply 0
abbrev pub call_of : ℕ → Command → Option Event
call_of i command.Arrive = None
call_of i command.Look = None
call_of i command.Out = None
call_of i command.Peek = None
call_of i command.Drop = None
call_of i command.Grant = None
call_of i (command.Act op) = Some (Act i op 0)
call_of i (command.Leave pick) = Some (Leave i next.Stay)
call_of i (command.Wait c pick) = Some (Wait i c next.Stay)
call_of i (command.Signal c pick) = Some (Signal i c next.Stay)
call_of i (command.SignalLeave c pick) = Some (SignalLeave i c next.Stay)
call_of i (command.Until p pick) = Some (Until i p next.Stay)
call_of i (command.SignalAll c) = Some (SignalAll i c)
call_of i (command.SignalWait c d pick) = Some (SignalWait i c d next.Stay)

-- the first version of the text that has the event of its call, or 1 if it is no call
abbrev pub command_version : Command → ℕ
command_version c = option_map_or first_version (call_of 0 c) 1

-- whether the event of the call is in range, if there is one
abbrev pub is_call_in_range : Object → FloorView → Option Event → Bool
is_call_in_range o f None = true
is_call_in_range o f (Some e) = is_in_range f.seats f.conds o.codes o.predicates e

-- whether the kind has the call
abbrev pub is_call_offered : Rules → Option Event → Bool
is_call_offered k None = true
is_call_offered k (Some e) = is_offered k e

-- whether a choice is entry
abbrev pub names_entry : Next → Bool
names_entry next.Stay = false
names_entry next.Entry = true
names_entry (next.Waiter j) = false
names_entry (next.Signaller j) = false
names_entry (next.Until j) = false

-- whether a choice names a seat
abbrev pub names_seat : Next → Bool
names_seat next.Stay = false
names_seat next.Entry = false
names_seat (next.Waiter j) = true
names_seat (next.Signaller j) = true
names_seat (next.Until j) = true

-- whether the seat has made such a choice and must still hand the right on
abbrev pub is_back : (Next → Bool) → Place → Bool
is_back chose Idle = false
is_back chose (Ticket t) = false
is_back chose (Due q) = false
is_back chose (Active q) = false
is_back chose (Back x home) = chose x
is_back chose (Passing t home) = false
is_back chose Inner = false

-- whether a seat at that place may carry the command out
abbrev pub may_be_told : Place → Command → Bool
may_be_told p command.Arrive = stage p == outside_stage
may_be_told p command.Look = stage p == ticketed_stage || stage p == inside_stage
may_be_told p command.Out = stage p == due_stage
may_be_told p command.Peek = stage p == outside_stage || stage p == active_stage
may_be_told p command.Drop = is_back names_entry p
may_be_told p command.Grant = stage p == passing_stage || is_back names_seat p
may_be_told p (command.Act op) = stage p == active_stage
may_be_told p (command.Leave pick) = stage p == active_stage
may_be_told p (command.Wait c pick) = stage p == active_stage
may_be_told p (command.Signal c pick) = stage p == active_stage
may_be_told p (command.SignalLeave c pick) = stage p == active_stage
may_be_told p (command.Until q pick) = stage p == active_stage
may_be_told p (command.SignalAll c) = stage p == active_stage
may_be_told p (command.SignalWait c d pick) = stage p == active_stage

-- how many events a seat must have left for a command, so that it can still resume and leave after it
abbrev pub left_for : Command → ℕ
left_for command.Arrive = 2
left_for command.Look = 0
left_for command.Out = 0
left_for command.Peek = 0
left_for command.Drop = 0
left_for command.Grant = 0
left_for (command.Act op) = 2
left_for (command.Leave pick) = 1
left_for (command.Wait c pick) = 3
left_for (command.Signal c pick) = 3
left_for (command.SignalLeave c pick) = 1
left_for (command.Until p pick) = 3
left_for (command.SignalAll c) = 2
left_for (command.SignalWait c d pick) = 3

-- the first refusal that applies
abbrev pub refusal : Rules → Object → State → ℕ → Command → Option Answer
refusal k o s i c =
    if not (nat_lt i s.floor.seats && is_call_in_range o s.floor (call_of i c)) then Some answer.Range
    else if not (is_call_offered k (call_of i c)) then Some answer.NoCall
    else if not (may_be_told (s.world.place i) c) then Some answer.NotNow
    else if nat_lt (left_of s.floor.budget s.floor.history i) (left_for c) then Some answer.Tired
    else None

-- the queue from which the turn is due
abbrev pub queue_due : Turn → From3
queue_due turn.Open = FromWaiter
queue_due (turn.Due j q) = q
queue_due (turn.Owned j) = FromWaiter

-- the event by which a seat becomes active
abbrev pub out_event : ℕ → Source → Turn → Event
out_event i (Free t) u = Enter i via.Free
out_event i (Granted t) u = Enter i via.Handed
out_event i Called u = Resume i (queue_due u)

-- the choice of a release, by the wish rules
abbrev pub release_next : Rules → Object → State → ℕ → Event → Pick → Next
release_next k o s i e pick = choice_of k o (stands_of k o s.floor) e (s.known i) pick

-- the release is recorded with its choice, and the floor goes home unless the seat stays
abbrev pub IsReleased : Rules → Object → State → ℕ → Event → Pick → Home → Answer → State → Type 0
IsReleased k o s i e pick home a t =
    (a ≡ answer.Chose (release_next k o s i e pick))
    × (t ≡ record s {
      world = if is_stay (Some (release_next k o s i e pick)) then s.world
          else after_floor_in s.world i (release_next k o s i e pick) home;
      floor = with_event s.floor (with_next (release_next k o s i e pick) e);
    })

-- the chosen seat is called
abbrev pub IsGranted : State → ℕ → Next → Home → Answer → State → Type 0
IsGranted s i next.Stay home a t = ⊥
IsGranted s i next.Entry home a t = ⊥
IsGranted s i (next.Waiter j) home a t = (a ≡ answer.GrantedSeat j)
    × (t ≡ record s { world = after_seat_grant s.world i j home })
IsGranted s i (next.Signaller j) home a t = (a ≡ answer.GrantedSeat j)
    × (t ≡ record s { world = after_seat_grant s.world i j home })
IsGranted s i (next.Until j) home a t = (a ≡ answer.GrantedSeat j)
    × (t ≡ record s { world = after_seat_grant s.world i j home })

-- the ticket in use is passed on, if entry was chosen
abbrev pub IsDropped : State → ℕ → Next → Home → Answer → State → Type 0
IsDropped s i next.Stay home a t = ⊥
IsDropped s i next.Entry home a t = (a ≡ answer.Found s.world.unpassed)
    × (t ≡ record s { world = after_drop s.world i home })
IsDropped s i (next.Waiter j) home a t = ⊥
IsDropped s i (next.Signaller j) home a t = ⊥
IsDropped s i (next.Until j) home a t = ⊥

-- a step of seat i at place p that is not refused. At a place that the command doesn't fit there is none
abbrev pub IsDone : Rules → Object → State → ℕ → Place → Command → Answer → State → Type 0
IsDone k o s i Idle command.Arrive a t = (a ≡ answer.Arrived s.world.drawn s.world.unpassed)
    × (t ≡ record s { world = after_arrive s.world i })
IsDone k o s i p command.Arrive a t = ⊥
IsDone k o s i (Ticket n) command.Look a t =
    (a ≡ answer.Looked (s.world.ticket_place (n % s.floor.seats) == n + 1))
    × (t ≡ record s { world = after_ticket_look s.world i n (s.world.ticket_place (n % s.floor.seats) == n + 1) })
IsDone k o s i Inner command.Look a t =
    (a ≡ answer.Looked (s.world.seat_place i == s.world.count i + 1))
    × (t ≡ record s { world = after_seat_look s.world i (s.world.seat_place i == s.world.count i + 1) })
IsDone k o s i p command.Look a t = ⊥
IsDone k o s i (Due q) command.Out a t =
    (a ≡ answer.Now)
    × (t ≡ record {
      world = after_floor_out s.world i q;
      known = update s.known i false;
      floor =
          with_event s.floor (out_event i q (turn s.floor.history));
    })
IsDone k o s i p command.Out a t = ⊥
IsDone k o s i Idle command.Peek a t = (a ≡ answer.Found s.world.unpassed) × (t ≡ s)
IsDone k o s i (Active q) command.Peek a t =
    (a ≡ answer.Found s.world.unpassed)
    × (t ≡ record s { known = update s.known i (s.known i || nat_le 2 s.world.unpassed) })
IsDone k o s i p command.Peek a t = ⊥
IsDone k o s i (Back x home) command.Drop a t = IsDropped s i x home a t
IsDone k o s i p command.Drop a t = ⊥
IsDone k o s i (Back x home) command.Grant a t = IsGranted s i x home a t
IsDone k o s i (Passing n home) command.Grant a t = (a ≡ answer.GrantedTicket n)
    × (t ≡ record s { world = after_ticket_grant s.floor.seats s.world i n home })
IsDone k o s i p command.Grant a t = ⊥
IsDone k o s i (Active q) (command.Act op) a t =
    (a ≡ answer.Reply (o.reply (data_of (monitor_of k o s.floor) s.floor.history) op))
    × (t ≡ record s {
      floor =
          with_event s.floor (Act i op (o.reply (data_of (monitor_of k o s.floor) s.floor.history) op));
    })
IsDone k o s i p (command.Act op) a t = ⊥
IsDone k o s i (Active q) (command.Leave pick) a t = IsReleased k o s i (Leave i next.Stay) pick home.Idle a t
IsDone k o s i p (command.Leave pick) a t = ⊥
IsDone k o s i (Active q) (command.Wait c pick) a t = IsReleased k o s i (Wait i c next.Stay) pick home.Inner a t
IsDone k o s i p (command.Wait c pick) a t = ⊥
IsDone k o s i (Active q) (command.Signal c pick) a t = IsReleased k o s i (Signal i c next.Stay) pick home.Inner a t
IsDone k o s i p (command.Signal c pick) a t = ⊥
IsDone k o s i (Active q) (command.SignalLeave c pick) a t =
    IsReleased k o s i (SignalLeave i c next.Stay) pick home.Idle a t
IsDone k o s i p (command.SignalLeave c pick) a t = ⊥
IsDone k o s i (Active q) (command.Until p pick) a t = IsReleased k o s i (Until i p next.Stay) pick home.Inner a t
IsDone k o s i p (command.Until q pick) a t = ⊥
IsDone k o s i (Active q) (command.SignalAll c) a t =
    (a ≡ answer.Woke (length (condition c s.floor.history)))
    × (t ≡ record s { floor = with_event s.floor (SignalAll i c) })
IsDone k o s i p (command.SignalAll c) a t = ⊥
IsDone k o s i (Active q) (command.SignalWait c d pick) a t =
    IsReleased k o s i (SignalWait i c d next.Stay) pick home.Inner a t
IsDone k o s i p (command.SignalWait c d pick) a t = ⊥

-- the command is refused for that reason, or else carried out
abbrev pub IsAnswered : Rules → Object → State → ℕ → Command → Option Answer → Answer → State → Type 0
IsAnswered k o s i c None a t = IsDone k o s i (s.world.place i) c a t
IsAnswered k o s i c (Some r) a t = (a ≡ r) × (t ≡ s)

-- one step. A refusal changes nothing
abbrev pub IsStep : Rules → Object → State → ℕ → Command → Answer → State → Type 0
IsStep k o s i c a t = IsAnswered k o s i c (refusal k o s i c) a t
