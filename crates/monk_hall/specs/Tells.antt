-- What each step tells the seat that takes it
use Rattle.std.specs.Prelude.{◌≡◌, ℕ, ◌+◌, ◌<◌, ◌≤◌, ◌⊎◌, true, false, List, [], ◌∷◌, Option, Some, None}
use Rattle.atomic_table.specs.Table as table
use Rattle.atomic_table.specs.{Seated.TableId, declared.shared.Seat.Seat}
use Rattle.monk_kinds.specs.declared.{mode.Rules.Rules, Pick.Pick}
use Rattle.monk_object.specs.Object.{Object}
use Rattle.monk_history.specs.declared.event.Next.TheVariants as next
use Rattle.monk_history.specs.Meaning.{Counts.events_of, Counts.enters_of, Counts.left_of, Events.is_stay}
use Rattle.monk_history.specs.Meaning.{Legal.IsLegal, Release.MayCall, Release.with_next, Release.choice_of}
use Rattle.monk_history.specs.declared.event.Next.{Next}
use Rattle.monk_history.specs.declared.event.Event.{Event}
use Rattle.monk_history.specs.declared.event.Event.TheVariants.{Enter, Act, Leave, Wait, Signal, SignalLeave, Until}
use Rattle.monk_history.specs.declared.event.Event.TheVariants.{Resume, SignalAll, SignalWait}
use Rattle.monk_floor.specs.View.{FloorView, monitor_of, stands_of}
use Rattle.monk_world.specs.declared.home.Home.TheVariants as home
use Rattle.monk_world.specs.{Sound.left_within, State.with_event, declared.home.Home.Home}
use Rattle.monk_world.specs.Places.{ticket, back_turn, due_to}
use Rattle.monk_hall.specs.{Records.View, Records.the, Records.tail, declared.deed.Deed.TheVariants.GrantTicket}
use Rattle.monk_hall.specs.{declared.deed.Deed.TheVariants.CallSeat, declared.record.SeatRecord.SeatRecord}
use Rattle.monk_hall.specs.Changes.{record_after_arrive, record_after_ticket_look, record_after_seat_look}
use Rattle.monk_hall.specs.Changes.{record_after_peek, record_after_floor_out, record_after_floor_in, record_after_drop}
use Rattle.monk_hall.specs.Changes.{record_after_grant, view_after_compare}
use Rattle.monk_hall.specs.Floors.{StartsWith, Finds, GoesOn}
use Rattle.monk_hall.specs.Layout.{tickets, unpassed, word_count, floor_of}

-- a seat's view, and the slots that it has in its hands
abbrev pub Me : Type 0
Me = table.Me (Option FloorView) View

-- it draws a ticket, with a number not below the enters that it has seen
abbrev pub TellsArrive : Me → ℕ → Me → Type 0
TellsArrive me found new = (new ≡ (record_after_arrive (the me.0) found ∷ [], me.1))
    × (enters_of (the me.0).seen ≤ tickets found)

-- what a look at a ticket's word tells
abbrev pub TellsTicketLook : Me → ℕ → Me → Type 0
TellsTicketLook me found new = new ≡ (record_after_ticket_look (the me.0) found ∷ [], me.1)

-- what a look at a seat's own word tells
abbrev pub TellsSeatLook : Me → ℕ → Me → Type 0
TellsSeatLook me found new = new ≡ (record_after_seat_look (the me.0) found ∷ [], me.1)

-- what it knew it finds again: no ticket is passed on while it is active
abbrev pub TellsPeek : Me → ℕ → Me → Type 0
TellsPeek me found new = (new ≡ (record_after_peek (the me.0) found ∷ [], me.1))
    × ((the me.0).known ≡ true → (the new.0).known ≡ true)

-- the floor comes out
abbrev pub TellsFloorOut : Rules → Object → Me → ℕ → Me → Type 0
TellsFloorOut k o me found new =
    (f : FloorView) × (new ≡ (record_after_floor_out (the me.0) f.history ∷ [], (0, Some f) ∷ me.1))
    × Finds k o (the me.0) f

-- the floor goes home
abbrev pub TellsFloorIn : List Event → Me → ℕ → Me → Type 0
TellsFloorIn history me found new = new ≡ (record_after_floor_in (the me.0) history ∷ [], [])

-- the history of the floor in its hands
abbrev pub held_history : List (ℕ × Option FloorView) → List Event
held_history [] = []
held_history ((k, None) ∷ xs) = []
held_history ((k, Some f) ∷ xs) = f.history

-- the ticket in use is the first that isn't passed on, and that of the last enter. So the number of the next ticket
-- is the number of enters in the history that the seat took home
abbrev pub TellsDrop : Me → ℕ → Me → Type 0
TellsDrop me found new =
    (new ≡ (record_after_drop (the me.0) found ∷ [], me.1)) × (0 < unpassed found) × (unpassed found ≤ tickets found)
    × (tickets found + 1 ≡ unpassed found + enters_of (the me.0).seen)

-- what the grant of a ticket tells
abbrev pub TellsTicketGrant : Me → ℕ → Me → Type 0
TellsTicketGrant me found new =
    new ≡ (record_after_grant (the me.0) (GrantTicket (ticket (the me.0).place)) ∷ [], me.1)

-- what the call of a seat tells
abbrev pub TellsCall : Me → ℕ → Me → Type 0
TellsCall me found new = (m : ℕ) × (back_turn (the me.0).place ≡ due_to m)
    × (new ≡ (record_after_grant (the me.0) (CallSeat m) ∷ [], me.1))

-- one of two histories begins the other
abbrev pub AreOne : List Event → List Event → Type 0
AreOne a b = StartsWith a b ⊎ StartsWith b a

-- what a seat has seen is legal, and its own events there are those that it knows as its own
pub record SeesTruly (k : Rules) (o : Object) (r : SeatRecord) : Type 0 where
  pub legal : IsLegal (monitor_of k o (floor_of r.setting r.seen)) r.seen
  pub own : events_of r.seen r.seat ≡ r.mine

-- what a comparison of two seats tells
abbrev pub TellsCompare : Rules → Object → Me → ℕ → Me → Type 0
TellsCompare k o me found new = (new ≡ (view_after_compare me.0, me.1)) × AreOne (the me.0).seen (the (tail me.0)).seen
    × SeesTruly k o (the new.0) × SeesTruly k o (the (tail new.0))

-- a release of seat i as it is called, written with `stay`, and where the seat goes then: outside after a leave,
-- inside after a wait
abbrev pub IsReleaseTo : ℕ → Home → Event → Type 0
IsReleaseTo i to (Enter s via) = ⊥
IsReleaseTo i to (Act s op r) = ⊥
IsReleaseTo i home.Idle (Leave s x) = (s ≡ i) × (x ≡ next.Stay)
IsReleaseTo i home.Inner (Leave s x) = ⊥
IsReleaseTo i home.Idle (Wait s c x) = ⊥
IsReleaseTo i home.Inner (Wait s c x) = (s ≡ i) × (x ≡ next.Stay)
IsReleaseTo i home.Idle (Signal s c x) = ⊥
IsReleaseTo i home.Inner (Signal s c x) = (s ≡ i) × (x ≡ next.Stay)
IsReleaseTo i home.Idle (SignalLeave s c x) = (s ≡ i) × (x ≡ next.Stay)
IsReleaseTo i home.Inner (SignalLeave s c x) = ⊥
IsReleaseTo i home.Idle (Until s p x) = ⊥
IsReleaseTo i home.Inner (Until s p x) = (s ≡ i) × (x ≡ next.Stay)
IsReleaseTo i to (Resume s q) = ⊥
IsReleaseTo i to (SignalAll s c) = ⊥
IsReleaseTo i home.Idle (SignalWait s c d x) = ⊥
IsReleaseTo i home.Inner (SignalWait s c d x) = (s ≡ i) × (x ≡ next.Stay)

-- the floor that a seat takes home: the one that it had, with one more release, which chose another by the wish rules
pub record Returns (k : Rules) (o : Object) (r : SeatRecord) (f : FloorView) : Type 0 where
  pub before : FloorView
  pub goes_on : GoesOn k o r before
  pub call : Event
  pub wish : Pick
  pub to : Home
  pub choice : Next
  pub release : IsReleaseTo r.seat to call
  pub may : MayCall (monitor_of k o before) before.history call
  pub chosen : choice ≡ choice_of k o (stands_of k o before) call r.known wish
  pub away : is_stay (Some choice) ≡ false
  pub left : left_within to < left_of before.budget before.history r.seat
  pub grows : f ≡ with_event before (with_next choice call)

-- the table has the words for that many seats
abbrev pub IsSized : TableId → ℕ → Type 0
IsSized z seats = (z.words ≡ word_count seats) × (z.slots ≡ 1)

-- a seat of this table, which has the words for that many seats
abbrev pub IsOfTable : {S V : Type 0} → Seat S V → TableId → ℕ → Type 0
IsOfTable seat z seats = (seat.table_id ≡ z) × IsSized z seats

-- the seat is the same as before
abbrev pub IsSameSeat : {S V : Type 0} → Seat S V → Seat S V → Type 0
IsSameSeat old new = (new.table_id ≡ old.table_id) × (new.id ≡ old.id)
