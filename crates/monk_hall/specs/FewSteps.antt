-- How few steps each call takes, by what its contract says that its token did
use Rattle.std.specs.Prelude.{◌≡◌, ℕ, ◌+◌, ◌≤◌, Option, Some, None, IfSome, MatchOption}
use Rattle.monk_kinds.specs.declared.mode.{Pick.Pick, Rules.Rules}
use Rattle.monk_object.specs.Object.{Object}
use Rattle.monk_history.specs.{Meaning.Counts.enters_of, declared.event.Event.Event}
use Rattle.monk_world.specs.declared.home.Home.{Home}
use Rattle.monk_hall.specs.{Closing.IsBusy, Deeds.looks_of, Deeds.steps_of, Granting.Grant, Granting.HasGranted}
use Rattle.monk_hall.specs.{Handing.seat_called_by, Layout.seat_word, Layout.ticket_word, NextTicket.IsLooking}
use Rattle.monk_hall.specs.{Tokens.Token, Tokens.Holder, Tokens.House, declared.record.SeatRecord.SeatRecord}
use Rattle.monk_hall.specs.Calls.{ComesAfter, HasArrived, HasReleased, HasStayed, StillWaits}

-- from r to w the seat has looked `looked` times, and taken at most `most` steps
pub record HasStepped (looked most : ℕ) (r w : SeatRecord) : Type 0 where
  pub looks : looks_of w.did ≡ looks_of r.did + looked
  pub steps : steps_of w.did ≤ steps_of r.did + most

-- an arrival: one step, and no look
abbrev pub ArrivalsAreFewSteps : Type 0
ArrivalsAreFewSteps = (k : Rules) (o : Object) (p q : Token) → HasArrived k o p q → HasStepped 0 1 p.me q.me

-- a poll that returns the token: one look
abbrev pub PollsAreFewSteps : Type 0
PollsAreFewSteps =
    (k : Rules) (o : Object) (p q : Token) → IsLooking p.me.place → StillWaits k o p q → HasStepped 1 1 p.me q.me

-- a seat comes in by at most one more look than it had in vain, and the step for the floor
abbrev pub ComesInFewSteps : Type 0
ComesInFewSteps =
    (n : ℕ) (r w : SeatRecord) → ComesAfter n r w → (looks_of w.did ≤ looks_of r.did + n + 1)
    × (steps_of w.did ≤ steps_of r.did + n + 2)

-- a release: its look, if it takes one, and at most three more steps
abbrev pub ReleasesAreFewSteps : Type 0
ReleasesAreFewSteps =
    (k : Rules) (o : Object) (a : Holder) (call : Event) (wish : Pick) (to : Home) (peeks : ℕ) (p : Token)
    → HasReleased k o a call wish to peeks p → HasStepped peeks (peeks + 3) a.me p.me

-- a release that stays: only its look
abbrev pub StaysAreFewSteps : Type 0
StaysAreFewSteps =
    (k : Rules) (o : Object) (a : Holder) (call : Event) (wish : Pick) (peeks : ℕ) (b : Holder)
    → HasStayed k o a call wish peeks b → HasStepped peeks peeks a.me b.me

-- a close that finds somebody: at most one look
abbrev pub BusyIsFewSteps : Type 0
BusyIsFewSteps =
    (k : Rules) (o : Object) (a b : Holder) → IsBusy k o a b → (looks_of b.me.did ≤ looks_of a.me.did + 1)
    × (steps_of b.me.did ≤ steps_of a.me.did + 1)

-- a grant is one of these steps. After the choice of a seat it is that seat's. After the choice of entry it is that
-- of the next ticket, whose number is the number of enters in the history that ends with the release. A release that
-- granted nothing took one step less
pub record IsGrantFor (k : Rules) (o : Object) (a : Holder) (peeks : ℕ) (p : Token) (h : House)
    (called : Option ℕ) (g : Option Grant) : Type 0 where
  pub here : IfSome g (λ x. x.table ≡ h.id)
  pub seat : (j : ℕ) → called ≡ Some j → g ≡ Some (record { table = h.id; word = seat_word j })
  pub ticket : called ≡ None
      → MatchOption g (steps_of p.me.did ≡ steps_of a.me.did + peeks + 2)
      (λ x. (steps_of p.me.did ≡ steps_of a.me.did + peeks + 3)
      × (x.word ≡ ticket_word h.setting.seats (enters_of p.me.seen)))

-- this holds for every release
abbrev pub GrantsAreSteps : Type 0
GrantsAreSteps =
    (k : Rules) (o : Object) (a : Holder) (call : Event) (wish : Pick) (to : Home) (peeks : ℕ) (p : Token) (h : House)
    (g : Option Grant) → (x : HasGranted k o a call wish to peeks p h g)
    → IsGrantFor k o a peeks p h (seat_called_by x.released.choice) g

-- a release without a look learns nothing of the entry
abbrev pub UnlookedLearnsNothing : Type 0
UnlookedLearnsNothing =
    (k : Rules) (o : Object) (a : Holder) (call : Event) (wish : Pick) (to : Home) (peeks : ℕ) (p : Token)
    → HasReleased k o a call wish to peeks p → looks_of p.me.did ≡ looks_of a.me.did → p.me.known ≡ a.me.known
