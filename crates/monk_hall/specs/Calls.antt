-- What each call promises, of the token that was handed in and of the one that it returns
use Rattle.std.specs.Prelude.{◌≡◌, ℕ, ◌+◌, ◌==◌, ◌≤◌, ◌&&◌, not, Bool, true, false, if◌then◌else◌, List, [], ◌∷◌, ◌++◌, replicate}
use Rattle.std.specs.Prelude.{Option, Some, None}
use Rattle.monk_kinds.specs.declared.mode.Rules.{Rules}
use Rattle.monk_kinds.specs.declared.mode.Pick.{Pick, TheVariants.Entry as WishEntry, TheVariants.Waiter as WishWaiter}
use Rattle.monk_kinds.specs.declared.mode.Pick.{TheVariants.Signaller as WishSignaller}
use Rattle.monk_object.specs.Object.{Object}
use Rattle.monk_history.specs.declared.event.Next.TheVariants as next
use Rattle.monk_history.specs.Meaning.{Choice.must_stay, Counts.enters_of, Counts.events_of, Events.is_stay}
use Rattle.monk_history.specs.Meaning.{Legal.IsLegal, Release.with_next, Release.choice_of, Turn.turn}
use Rattle.monk_history.specs.declared.event.{Event.Event, Next.Next}
use Rattle.monk_floor.specs.View.{FloorView, monitor_of, stands_of}
use Rattle.monk_world.specs.declared.home.Home.TheVariants as home
use Rattle.monk_world.specs.{Places.place_of, State.with_event, StepTable.out_event}
use Rattle.monk_world.specs.Steps.{place_after_ticket_look, place_after_seat_look, count_after_seat_look}
use Rattle.monk_world.specs.declared.source.Source.TheVariants.{Free, Granted, Called}
use Rattle.monk_world.specs.declared.home.Home.{Home}
use Rattle.monk_world.specs.declared.place.Place.{Place}
use Rattle.monk_world.specs.declared.place.Place.TheVariants.{Idle, Ticket, Due, Active, Back, Passing, Inner}
use Rattle.monk_hall.specs.{Floors.StartsWith, Handing.HandsOn, Handing.seat_called_by, Layout.tickets, Layout.floor_of}
use Rattle.monk_hall.specs.{Tells.SeesTruly, Tokens.Token, Tokens.Holder, Changes.record_after_arrive}
use Rattle.monk_hall.specs.{Changes.source_from, Changes.since, Deeds.knows_from, Deeds.look_at, Deeds.looks_in_vain}
use Rattle.monk_hall.specs.declared.deed.Deed.{Deed}
use Rattle.monk_hall.specs.declared.deed.Deed.TheVariants.{LookForTicket, LookForCall, Peek, FloorOut, FloorIn}
use Rattle.monk_hall.specs.declared.record.SeatRecord.{SeatRecord}

-- it has drawn a ticket, with a number not below the enters that it has seen
pub record HasArrived (k : Rules) (o : Object) (p q : Token) : Type 0 where
  pub found : ℕ
  pub hall : q.hall ≡ p.hall
  pub me : q.me ≡ record_after_arrive p.me found
  pub enters : enters_of p.me.seen ≤ tickets found
  pub told : SeesTruly k o q.me

-- the ticket with which a seat waits for entry, or by which it got the right
abbrev pub held_ticket : Place → Option ℕ
held_ticket Idle = None
held_ticket (Ticket t) = Some t
held_ticket (Due (Free t)) = Some t
held_ticket (Due (Granted t)) = Some t
held_ticket (Due Called) = None
held_ticket (Active q) = None
held_ticket (Back x to) = None
held_ticket (Passing t to) = None
held_ticket Inner = None

-- the record of a waiting seat after a look that found this. A seat that is due needs no look
abbrev pub record_after_look : Place → SeatRecord → ℕ → SeatRecord
record_after_look Idle r found = r
record_after_look (Ticket t) r found =
    record r { place = place_after_ticket_look t (found == t + 1); did = r.did ++ LookForTicket (found == t + 1) ∷ [] }
record_after_look (Due q) r found = r
record_after_look (Active q) r found = r
record_after_look (Back x to) r found = r
record_after_look (Passing t to) r found = r
record_after_look Inner r found =
    record r {
      place = place_after_seat_look (found == r.count + 1);
      count = count_after_seat_look r.count (found == r.count + 1);
      did = r.did ++ LookForCall (found == r.count + 1) ∷ [];
    }

-- the seat has looked whether it may come in
pub record HasLooked (k : Rules) (o : Object) (p q : Token) : Type 0 where
  pub found : ℕ
  pub hall : q.hall ≡ p.hall
  pub me : q.me ≡ record_after_look p.me.place p.me found

-- the seat is active. Its history is what came before, and the event with which it came in. What came before begins
-- with all that the seat had seen. That event is also the last of its own. A seat that came by a ticket finds as many
-- enters as that ticket's number. The seat's events in the history are its own
pub record HasEntered (k : Rules) (o : Object) (p : Token) (a : Holder) : Type 0 where
  pub hall : a.hall ≡ p.hall
  pub seat : a.me.seat ≡ p.me.seat
  pub setting : a.me.setting ≡ p.me.setting
  pub place : a.me.place ≡ Active (source_from p.me.place)
  pub known : a.me.known ≡ false
  pub starts : StartsWith a.me.seen p.me.seen
  pub floor : a.floor ≡ floor_of p.me.setting
      (a.me.seen ++ out_event p.me.seat (source_from p.me.place) (turn a.me.seen) ∷ [])
  pub mine : a.me.mine ≡ p.me.mine ++ out_event p.me.seat (source_from p.me.place) (turn a.me.seen) ∷ []
  pub first : (t : ℕ) → source_from p.me.place ≡ Free t → enters_of a.me.seen ≡ t
  pub next : (t : ℕ) → source_from p.me.place ≡ Granted t → enters_of a.me.seen ≡ t
  pub legal : IsLegal (monitor_of k o a.floor) a.floor.history
  pub own : events_of a.floor.history a.me.seat ≡ a.me.mine

-- it came in after n looks in vain, a look that found its grant if it needed one, and the step by which the floor
-- came to it
abbrev pub ComesAfter : ℕ → SeatRecord → SeatRecord → Type 0
ComesAfter n r w = w.did ≡ r.did ++ (looks_in_vain n r.place ++ (look_at r.place true ++ FloorOut ∷ []))

-- the right was not there, and the seat has looked once more
pub record StillWaits (k : Rules) (o : Object) (p q : Token) : Type 0 where
  pub hall : q.hall ≡ p.hall
  pub me : q.me ≡ record p.me { did = p.me.did ++ look_at p.me.place false }
  pub told : SeesTruly k o q.me

-- whether the wish needs to know if somebody waits for entry
abbrev pub wants_entry : Pick → Bool
wants_entry WishEntry = true
wants_entry WishWaiter = false
wants_entry WishSignaller = false

-- what a release knows of the entry. Only a wish for entry asks
abbrev pub is_entry_known : Pick → Bool → Bool
is_entry_known WishEntry known = known
is_entry_known WishWaiter known = false
is_entry_known WishSignaller known = false

-- how often a release looks at the ticket word: once if the wish is for entry and there is something to choose
abbrev pub peeks_of : Bool → Pick → ℕ
peeks_of chooses wish = if chooses && wants_entry wish then 1 else 0

-- how often a call looks whether somebody waits for entry
abbrev pub peeks_for : Rules → Object → FloorView → Event → Pick → ℕ
peeks_for k o f call wish = peeks_of (not (must_stay o (stands_of k o f) call)) wish

-- what a seat knew of the entry it still knows, and it knows what these looks found
pub record Remembers (r : SeatRecord) (looked : List Deed) (w : SeatRecord) : Type 0 where
  pub knew : r.known ≡ true → w.known ≡ true
  pub learns : w.known ≡ knows_from r.known looked

-- `peeks` looks at the ticket word, each of which found `found` tickets that are not passed on
abbrev pub peeks_at : ℕ → ℕ → List Deed
peeks_at peeks found = replicate peeks (Peek found)

-- the active seat has looked at the ticket word `peeks` times
pub record HasPeeked (peeks : ℕ) (a b : Holder) : Type 0 where
  pub found : ℕ
  pub remembers : Remembers a.me (peeks_at peeks found) b.me
  pub is : b ≡ record a { me = record a.me { known = b.me.known; did = a.me.did ++ peeks_at peeks found } }

-- the seat has returned the floor with this release, whose next is that of the wish rules. It is outside or parked
-- inside. `known` of the returned token says whether its look found somebody at the entry
pub record HasReleased (k : Rules) (o : Object) (a : Holder) (call : Event) (wish : Pick) (to : Home)
    (peeks : ℕ) (p : Token) : Type 0 where
  pub choice : Next
  pub chosen : choice ≡ choice_of k o (stands_of k o a.floor) call (is_entry_known wish p.me.known) wish
  pub away : is_stay (Some choice) ≡ false
  pub hall : p.hall ≡ a.hall
  pub seat : p.me.seat ≡ a.me.seat
  pub setting : p.me.setting ≡ a.me.setting
  pub place : p.me.place ≡ place_of to
  pub seen : p.me.seen ≡ a.floor.history ++ with_next choice call ∷ []
  pub mine : p.me.mine ≡ a.me.mine ++ with_next choice call ∷ []
  -- its steps: the look, if it takes one; then the floor goes home with all that the seat has recorded since it came
  -- in; then the right is handed on
  pub found : ℕ
  pub handed : List Deed
  pub did : p.me.did ≡ a.me.did ++ (peeks_at peeks found ++ FloorIn (since a.me.seen p.me.seen) ∷ handed)
  pub hands_on : HandsOn (seat_called_by choice) p.me.seen handed
  pub remembers : Remembers a.me (peeks_at peeks found) p.me
  pub told : SeesTruly k o p.me
  pub floor : a.floor ≡ floor_of a.me.setting a.floor.history

-- the seat has stayed active by this release, because the wish rules chose so
pub record HasStayed (k : Rules) (o : Object) (a : Holder) (call : Event) (wish : Pick) (peeks : ℕ)
    (b : Holder) : Type 0 where
  pub chosen : next.Stay ≡ choice_of k o (stands_of k o a.floor) call (is_entry_known wish b.me.known) wish
  pub found : ℕ
  pub is : b ≡ record a {
    me = record a.me {
      known = b.me.known;
      mine = a.me.mine ++ with_next next.Stay call ∷ [];
      did = a.me.did ++ peeks_at peeks found;
    };
    floor = with_event a.floor (with_next next.Stay call);
  }
  pub remembers : Remembers a.me (peeks_at peeks found) b.me
  pub legal : IsLegal (monitor_of k o b.floor) b.floor.history
  pub own : events_of b.floor.history b.me.seat ≡ b.me.mine
  pub floor : a.floor ≡ floor_of a.me.setting a.floor.history

-- the history has grown by an event of the active seat, and nothing else has changed
pub record HasDone (k : Rules) (o : Object) (a : Holder) (e : Event) (b : Holder) : Type 0 where
  pub is : b ≡ record a { me = record a.me { mine = a.me.mine ++ e ∷ [] }; floor = with_event a.floor e }
  pub legal : IsLegal (monitor_of k o b.floor) b.floor.history
  pub own : events_of b.floor.history b.me.seat ≡ b.me.mine

-- a release that always leads outside. It looks at the ticket word if its wish is for entry
abbrev pub GoesOut : Rules → Object → Holder → Event → Pick → Token → Type 0
GoesOut k o a call wish p = HasReleased k o a call wish home.Idle (peeks_of true wish) p

-- a release that always parks inside. It looks at the ticket word if its wish is for entry
abbrev pub ParksInside : Rules → Object → Holder → Event → Pick → Token → Type 0
ParksInside k o a call wish p = HasReleased k o a call wish home.Inner (peeks_of true wish) p

-- what a release must know of the entry if it has something to choose
abbrev pub KnowsForChoice : Rules → Object → Holder → Event → Pick → Bool → Type 0
KnowsForChoice k o a call wish known = must_stay o (stands_of k o a.floor) call ≡ false
    → known ≡ is_entry_known wish a.me.known
