-- What is granted when the right is handed on, and to whom
use Rattle.std.specs.Prelude.{◌≡◌, ℕ, true, List, Option, Some, None}
use Rattle.std.specs.List.{last_or}
use Rattle.atomic_table.specs.Seated.{TableId}
use Rattle.monk_kinds.specs.declared.mode.{Pick.Pick, Rules.Rules}
use Rattle.monk_object.specs.Object.{Object}
use Rattle.monk_history.specs.declared.event.Event.{Event}
use Rattle.monk_world.specs.declared.home.Home.TheVariants as home
use Rattle.monk_world.specs.declared.home.Home.{Home}
use Rattle.monk_hall.specs.{AfterCalls.MatchAfter, Layout.seat_word, Layout.ticket_word, Tokens.Token, Tokens.Holder}
use Rattle.monk_hall.specs.{Tokens.House, declared.after.After.After, declared.deed.Deed.Deed}
use Rattle.monk_hall.specs.{declared.deed.Deed.TheVariants.GrantTicket, declared.deed.Deed.TheVariants.CallSeat}
use Rattle.monk_hall.specs.Calls.{HasReleased, HasStayed, peeks_of, peeks_for}

-- a grant that was stored: in which word of which table
pub record Grant : Type 0 where
  pub table : TableId
  pub word : ℕ

-- what a deed stored as a grant, in the table z for `seats` seats. The grant of a ticket is in the ticket's place,
-- and the call of a seat in the seat's own
abbrev pub grant_of : TableId → ℕ → Option Deed → Option Grant
grant_of z seats (Some (GrantTicket t)) = Some (record { table = z; word = ticket_word seats t })
grant_of z seats (Some (CallSeat j)) = Some (record { table = z; word = seat_word j })
grant_of z seats _ = None

-- what a seat that has done this granted last
abbrev pub granted_last : TableId → ℕ → List Deed → Option Grant
granted_last z seats ds = grant_of z seats (last_or None ds)

-- a release and what it granted. That is what its last step stored
pub record HasGranted (k : Rules) (o : Object) (a : Holder) (call : Event) (wish : Pick) (to : Home)
    (peeks : ℕ) (p : Token)
    (h : House) (g : Option Grant) : Type 0 where
  pub released : HasReleased k o a call wish to peeks p
  pub granted : g ≡ granted_last h.id h.setting.seats p.me.did

-- the seat leaves, and that grant was made
abbrev pub GrantsOut : Rules → Object → Holder → Event → Pick → Token → House → Option Grant → Type 0
GrantsOut k o a call wish p h g = HasGranted k o a call wish home.Idle (peeks_of true wish) p h g

-- the seat waits inside, and that grant was made
abbrev pub GrantsInside : Rules → Object → Holder → Event → Pick → Token → House → Option Grant → Type 0
GrantsInside k o a call wish p h g = HasGranted k o a call wish home.Inner (peeks_of true wish) p h g

-- the seat stays, and nothing is granted
pub record HasStayedAlone (k : Rules) (o : Object) (a : Holder) (call : Event) (wish : Pick) (peeks : ℕ) (b : Holder)
    (g : Option Grant) : Type 0 where
  pub stayed : HasStayed k o a call wish peeks b
  pub none : g ≡ None

-- the seat stays active, or it waits inside and that grant was made
abbrev pub StaysOrGrants : {K T : Type 0} → Rules → Object → Holder → Event → Pick → After K T → House
    → Option Grant → Type 0
StaysOrGrants k o a call wish to h g =
    MatchAfter to (λ b. HasStayedAlone k o a call wish (peeks_for k o a.floor call wish) b g)
    (λ p. HasGranted k o a call wish home.Inner (peeks_for k o a.floor call wish) p h g)
