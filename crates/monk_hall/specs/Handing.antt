-- How the right is handed on
use Rattle.std.specs.Prelude.{◌≡◌, ℕ, ◌≤◌, ◌⊎◌, List, [], ◌∷◌, ◌++◌, Option, Some, None}
use Rattle.atomic_table.specs.Seated.{TableId}
use Rattle.monk_kinds.specs.declared.mode.Rules.{Rules}
use Rattle.monk_object.specs.Object.{Object}
use Rattle.monk_history.specs.Meaning.{Counts.enters_of, Reasons.IsAllowed, Release.with_next}
use Rattle.monk_history.specs.declared.event.Next.{Next}
use Rattle.monk_history.specs.declared.event.Next.TheVariants.{Stay, Entry, Waiter, Signaller, Until}
use Rattle.monk_history.specs.declared.event.Event.{Event}
use Rattle.monk_floor.specs.View.{FloorView, monitor_of}
use Rattle.monk_world.specs.{Places.stage, Places.place_of, Places.active_stage, declared.home.Home.Home}
use Rattle.monk_hall.specs.{Layout.word_count, Records.IsOne, Records.the, Tells.Me, Tells.Returns}
use Rattle.monk_hall.specs.Changes.{record_after_floor_in, home_at}
use Rattle.monk_hall.specs.declared.record.SeatRecord.{SeatRecord}
use Rattle.monk_hall.specs.declared.deed.Deed.{Deed, TheVariants.Drop, TheVariants.GrantTicket, TheVariants.CallSeat}

-- the seat that a choice names
abbrev pub seat_called_by : Next → Option ℕ
seat_called_by Stay = None
seat_called_by Entry = None
seat_called_by (Waiter j) = Some j
seat_called_by (Signaller j) = Some j
seat_called_by (Until j) = Some j

-- how the right is handed on to the seat that a choice names. `seen` is the history that came home. By entry a choice
-- names nobody: the seat passes on the ticket in use, and grants the next ticket unless that was the last. The number
-- of the next ticket is the number of enters so far
abbrev pub HandsOn : Option ℕ → List Event → List Deed → Type 0
HandsOn (Some j) seen ds = ds ≡ CallSeat j ∷ []
HandsOn None seen ds = (ds ≡ Drop 1 ∷ [])
    ⊎ ((n : ℕ) × (2 ≤ n) × (ds ≡ Drop n ∷ GrantTicket (enters_of seen) ∷ []))

-- the active seat has recorded a release in its floor. The release chose `choice` and leads to `to`
pub record HasRecordedRelease (k : Rules) (o : Object) (z : TableId) (me : Me) (choice : Next) (to : Home)
    (f : FloorView) : Type 0 where
  pub one : IsOne me.0
  pub active : stage (the me.0).place ≡ active_stage
  pub sized : z.words ≡ word_count (the me.0).setting.seats
  pub returns : Returns k o (the me.0) f
  pub is_choice : returns.choice ≡ choice
  pub is_to : returns.to ≡ to
  pub allowed : IsAllowed (monitor_of k o returns.before) returns.before.history (with_next returns.choice returns.call)

-- a seat that has taken the floor home has handed the right on, and is where it was going
pub record HasHandedOn (called : Option ℕ) (r w : SeatRecord) : Type 0 where
  pub handed : List Deed
  pub hands_on : HandsOn called r.seen handed
  pub is : w ≡ record r { place = place_of (home_at r.place); did = r.did ++ handed }

-- the floor is home with this history, which ends with a release by this choice. The right is handed on, and the seat
-- is at `to`
pub record HasGone (r : SeatRecord) (h : List Event) (choice : Next) (to : Home) (w : SeatRecord) : Type 0 where
  pub handed : List Deed
  pub hands_on : HandsOn (seat_called_by choice) h handed
  pub is : w ≡ record (record_after_floor_in r h) {
    place = place_of to;
    did = (record_after_floor_in r h).did ++ handed;
  }
