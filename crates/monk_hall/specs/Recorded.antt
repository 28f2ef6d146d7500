-- A release that is recorded in the floor and must still go home
use Rattle.std.specs.Prelude.{◌≡◌, ℕ, ◌<◌, Bool, false, Option}
use Rattle.monk_kinds.specs.declared.mode.{Pick.Pick, Rules.Rules}
use Rattle.monk_object.specs.Object.{Object}
use Rattle.monk_history.specs.Meaning.{Choice.must_stay, Counts.left_of}
use Rattle.monk_history.specs.Meaning.Release.{MayCall, with_next, choice_of}
use Rattle.monk_history.specs.declared.event.{Event.Event, Next.Next}
use Rattle.monk_floor.specs.{Grown.IsGrown, View.FloorView, View.monitor_of, View.stands_of}
use Rattle.monk_world.specs.declared.home.Home.TheVariants as home
use Rattle.monk_world.specs.{Sound.left_within, declared.home.Home.Home}
use Rattle.monk_hall.specs.{AfterCalls.MatchAfter, Calls.is_entry_known, Records.the, Tells.IsReleaseTo}
use Rattle.monk_hall.specs.Tokens.{Token, Holder, House, IsHolding, holder}
use Rattle.monk_hall.specs.declared.{after.After.After, record.SeatRecord.SeatRecord, release.Release.Release}
use Rattle.monk_hall.specs.Granting.{Grant, HasGranted, HasStayedAlone}

-- a release that a seat made, as it was called, and that its floor recorded. The wish rules chose
pub record IsRelease (k : Rules) (o : Object) (r : SeatRecord) (f : FloorView) (call : Event) (wish : Pick)
    (known : Bool) (choice : Next) (to : Home) (g : FloorView) : Type 0 where
  pub release : IsReleaseTo r.seat to call
  pub may : MayCall (monitor_of k o f) f.history call
  pub left : left_within to < left_of f.budget f.history r.seat
  pub known_is : must_stay o (stands_of k o f) call ≡ false → known ≡ is_entry_known wish r.known
  pub chosen : choice ≡ choice_of k o (stands_of k o f) call known wish
  pub is_grown : IsGrown k o f (with_next choice call) g

-- the active seat `a`, taken apart, with nothing recorded yet
pub record IsApart {K T : Type 0} (k : Rules) (o : Object) (a : Holder) (r : Release K T) : Type 0 where
  pub holds : IsHolding k o r.seat.table_id r.seat.me r.numbers r.floor
  pub was : holder r.seat.table_id (the r.seat.me.0) r.floor ≡ a

-- the active seat `a`, taken apart, with this call recorded in its floor
pub record HasRecorded {K T : Type 0} (k : Rules) (o : Object) (a : Holder) (call : ℕ → Event) (wish : Pick)
    (known : Bool) (to : Home) (r : Release K T) : Type 0 where
  pub before : FloorView
  pub holds : IsHolding k o r.seat.table_id r.seat.me r.numbers before
  pub was : holder r.seat.table_id (the r.seat.me.0) before ≡ a
  pub release : IsRelease k o (the r.seat.me.0) before (call r.numbers.seat) wish known r.choice to r.floor

-- it has some release recorded, which leads to `to`
pub record IsRecorded {K T : Type 0} (k : Rules) (o : Object) (to : Home) (r : Release K T) : Type 0 where
  pub was : Holder
  pub call : ℕ → Event
  pub wish : Pick
  pub known : Bool
  pub recorded : HasRecorded k o was call wish known to r

-- whatever release was recorded, the seat goes outside with it
abbrev pub GoesOutside : {K T : Type 0} → Rules → Object → Release K T → Token → House → Option Grant → Type 0
GoesOutside k o r p h g =
    (a : Holder) (call : ℕ → Event) (wish : Pick) (known : Bool) → HasRecorded k o a call wish known home.Idle r
    → HasGranted k o a (call a.me.seat) wish home.Idle 0 p h g

-- whatever release was recorded, the seat is parked inside with it
abbrev pub GoesInside : {K T : Type 0} → Rules → Object → Release K T → Token → House → Option Grant → Type 0
GoesInside k o r p h g =
    (a : Holder) (call : ℕ → Event) (wish : Pick) (known : Bool) → HasRecorded k o a call wish known home.Inner r
    → HasGranted k o a (call a.me.seat) wish home.Inner 0 p h g

-- it stays active if it chose itself, and otherwise it is parked inside
abbrev pub GoesOnOrInside : {K T K2 T2 : Type 0} → Rules → Object → Release K T → After K2 T2 → House
    → Option Grant → Type 0
GoesOnOrInside k o r to h g =
    (a : Holder) (call : ℕ → Event) (wish : Pick) (known : Bool) → HasRecorded k o a call wish known home.Inner r
    → MatchAfter to (λ b. HasStayedAlone k o a (call a.me.seat) wish 0 b g)
    (λ p. HasGranted k o a (call a.me.seat) wish home.Inner 0 p h g)
