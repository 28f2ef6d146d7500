-- Who enters next after a release that chose entry
use Rattle.std.specs.Prelude.{◌≡◌, ℕ, ◌≤◌, ◌⊎◌, Some, None}
use Rattle.monk_kinds.specs.declared.mode.{Rules.Rules, Pick.Pick}
use Rattle.monk_object.specs.Object.{Object}
use Rattle.monk_history.specs.Meaning.Counts.{enters_of}
use Rattle.monk_history.specs.declared.event.{Event.Event, Next.TheVariants.Entry}
use Rattle.monk_world.specs.Places.{stage, ticketed_stage, inside_stage}
use Rattle.monk_world.specs.declared.place.Place.{Place, TheVariants.Ticket, TheVariants.Back}
use Rattle.monk_world.specs.declared.home.Home.{Home}
use Rattle.monk_hall.specs.{Calls.HasEntered, Granting.Grant, Granting.HasGranted, Handing.seat_called_by}
use Rattle.monk_hall.specs.{Laws.HallState, Laws.IsRecord, Laws.first_word, Rule.IsHall, Tokens.Token, Tokens.Holder}
use Rattle.monk_hall.specs.{Tokens.House, declared.record.SeatRecord.SeatRecord, declared.setting.Setting.Setting}
use Rattle.monk_hall.specs.Layout.{unpassed, ticket_word, waiting_word}

-- exactly one seat waits with this ticket
pub record OneWaits (c : Setting) (s : HallState) (t : ℕ) : Type 0 where
  pub seat : SeatRecord
  pub recorded : IsRecord s seat
  pub waits : seat.place ≡ Ticket t
  pub word : waiting_word seat ≡ ticket_word c.seats t
  pub alone : (q : SeatRecord) → IsRecord s q → q.place ≡ Ticket t → q ≡ seat

-- if a release by entry has taken the floor home, and two tickets are not passed on (the one in use, and another),
-- one seat waits with the next ticket. Its number is the number of enters so far
abbrev pub NextTicketWaits : Type 0
NextTicketWaits =
    (k : Rules) (o : Object) (c : Setting) (s : HallState) → IsHall k o c s
    → (r : SeatRecord) (to : Home) → IsRecord s r → r.place ≡ Back Entry to → 2 ≤ unpassed (first_word s)
    → OneWaits c s (enters_of r.seen)

-- if a release by entry has taken the floor home, and only the ticket in use is not passed on, no seat waits with a
-- ticket
abbrev pub NoTicketWaits : Type 0
NoTicketWaits =
    (k : Rules) (o : Object) (c : Setting) (s : HallState) → IsHall k o c s
    → (r : SeatRecord) (to : Home) → IsRecord s r → r.place ≡ Back Entry to → unpassed (first_word s) ≡ 1
    → (q : SeatRecord) (t : ℕ) → IsRecord s q → q.place ≡ Ticket t → ⊥

-- a release chose entry and granted a word: if the next seat that enters waited with a ticket, it waited at that word
abbrev pub GrantedEntersNext : Type 0
GrantedEntersNext =
    (k : Rules) (o : Object) (a : Holder) (call : Event) (wish : Pick) (to : Home) (peeks : ℕ) (p : Token)
    (h : House) (x : Grant)
    → (granted : HasGranted k o a call wish to peeks p h (Some x)) → seat_called_by granted.released.choice ≡ None
    → (q : Token) (b : Holder) (t : ℕ) → HasEntered k o q b → q.me.setting ≡ h.setting → q.me.place ≡ Ticket t
    → enters_of b.me.seen ≡ enters_of p.me.seen → waiting_word q.me ≡ x.word

-- the seat waits with a ticket or inside, and looks at its word until its grant is there
abbrev pub IsLooking : Place → Type 0
IsLooking p = (stage p ≡ ticketed_stage) ⊎ (stage p ≡ inside_stage)

-- two seats that look at one word are the same seat
abbrev pub OneWaitsAtAWord : Type 0
OneWaitsAtAWord =
    (k : Rules) (o : Object) (c : Setting) (s : HallState) → IsHall k o c s
    → (r q : SeatRecord) → IsRecord s r → IsRecord s q → IsLooking r.place → IsLooking q.place
    → waiting_word r ≡ waiting_word q → r ≡ q
