-- What contracts see of a hall and of its tokens
use Rattle.std.specs.Prelude.{◌≡◌, ℕ, ◌+◌, ◌<◌, List, [], ◌∷◌, length, None}
use Rattle.atomic_table.specs.Seated.{TableId}
use Rattle.monk_kinds.specs.declared.mode.Rules.{Rules}
use Rattle.monk_object.specs.Object.{Object}
use Rattle.monk_history.specs.Meaning.Counts.{events_of}
use Rattle.monk_floor.specs.View.{FloorView}
use Rattle.monk_world.specs.Places.{stage, active_stage}
use Rattle.monk_world.specs.declared.place.Place.{Place}
use Rattle.monk_world.specs.declared.place.Place.TheVariants.{Idle, Ticket, Due, Active, Back, Passing, Inner}
use Rattle.monk_hall.specs.{Floors.GoesOn, Layout.word_count, Records.View, Records.IsOne, Records.the, Tells.Me}
use Rattle.monk_hall.specs.{Tells.SeesTruly, declared.record.SeatRecord.SeatRecord}
use Rattle.monk_hall.specs.{declared.seat_numbers.SeatNumbers.SeatNumbers, declared.setting.Setting.Setting}

-- a hall: which table it is, and what was fixed when it was made
pub record House : Type 0 where
  pub id : TableId
  pub setting : Setting

-- a token of a seat that is idle or waits: of which hall, and what the seat knows
pub record Token : Type 0 where
  pub hall : TableId
  pub me : SeatRecord

-- a token of the active seat: it has the floor too, and `me.mine` has the seat's events in the floor's history
pub record Holder : Type 0 where
  pub hall : TableId
  pub me : SeatRecord
  pub floor : FloorView

-- the tokens of these records
abbrev pub tokens : TableId → View → List Token
tokens z [] = []
tokens z (r ∷ rs) = record { hall = z; me = r } ∷ tokens z rs

-- the view of a badge that has one
abbrev pub top : List View → View
top [] = []
top (v ∷ vs) = v

-- the record with the events that the seat has in the history of its floor
abbrev pub with_own : SeatRecord → FloorView → SeatRecord
with_own r f = record r { mine = events_of f.history r.seat }

-- the token of an active seat with this record and this floor
abbrev pub holder : TableId → SeatRecord → FloorView → Holder
holder z r f = record { hall = z; me = with_own r f; floor = f }

-- the numbers that a token keeps are those of its seat
pub record IsSeated (z : TableId) (r : SeatRecord) (numbers : SeatNumbers) : Type 0 where
  pub is_seat : r.seat ≡ numbers.seat
  pub near : numbers.seat < r.setting.seats
  pub sized : z.words ≡ word_count r.setting.seats
  pub counted : numbers.calls ≡ r.count
  pub budgeted : numbers.budget ≡ r.setting.budget

-- a seat without the floor, and with `left` events left
pub record IsResting (k : Rules) (o : Object) (z : TableId) (me : Me) (numbers : SeatNumbers) (left : ℕ) : Type 0 where
  pub one : IsOne me.0
  pub free : me.1 ≡ []
  pub seated : IsSeated z (the me.0) numbers
  pub spent : left + length (the me.0).mine ≡ (the me.0).setting.budget
  pub told : SeesTruly k o (the me.0)

-- a seat with the floor, which has an event left to go out
pub record IsHolding (k : Rules) (o : Object) (z : TableId) (me : Me) (numbers : SeatNumbers)
    (f : FloorView) : Type 0 where
  pub one : IsOne me.0
  pub out : me.1 ≡ (0, None) ∷ []
  pub active : stage (the me.0).place ≡ active_stage
  pub seated : IsSeated z (the me.0) numbers
  pub goes : GoesOn k o (the me.0) f
  pub left : length (events_of f.history (the me.0).seat) < (the me.0).setting.budget

-- the place of a seat that waits, or that has the right and not yet the floor
abbrev pub IsWaiting : Place → Type 0
IsWaiting Idle = ⊥
IsWaiting (Ticket t) = Unit {0}
IsWaiting (Due q) = Unit {0}
IsWaiting (Active q) = ⊥
IsWaiting (Back x to) = ⊥
IsWaiting (Passing t to) = ⊥
IsWaiting Inner = Unit {0}

-- all these are tokens of a hall with this table and this setting
abbrev pub AreOf : TableId → Setting → List Token → Type 0
AreOf z c [] = Unit {0}
AreOf z c (p ∷ ps) = (p.hall ≡ z) × (p.me.setting ≡ c) × AreOf z c ps
