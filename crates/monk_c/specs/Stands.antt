-- What contracts see of a seat of a C program: its hall and its token
use Rattle.std.specs.Prelude.{◌≡◌, ℕ}
use Rattle.atomic_table.specs.Seated.{TableId}
use Rattle.monk_kinds.specs.declared.name.KindName.{KindName}
use Rattle.monk_hall.specs.{Tokens.House, Tokens.Token, Tokens.Holder, declared.record.SeatRecord.SeatRecord}

-- a hall, and how many flags the program has for its predicates
pub record RoomView : Type 0 where
  pub house : House
  pub flags : ℕ

-- where a seat is, with its token
pub data At : Type 0 where
  Outside : Token → At
  Waiting : Token → At
  Inside : Holder → At

-- what it knows, and of which hall it is
abbrev pub me_of : At → SeatRecord
me_of (Outside p) = p.me
me_of (Waiting p) = p.me
me_of (Inside a) = a.me

-- the table of the seat's hall
abbrev pub table_of : At → TableId
table_of (Outside p) = p.hall
table_of (Waiting p) = p.hall
table_of (Inside a) = a.hall

-- a seat with its hall
pub record SeatView : Type 0 where
  pub room : RoomView
  pub at : At

-- the token belongs to the seat's hall
pub record IsAtHome (r : RoomView) (at : At) : Type 0 where
  pub table : table_of at ≡ r.house.id
  pub setting : (me_of at).setting ≡ r.house.setting

-- a seat of a kind
pub record Booked : Type 0 where
  pub kind : KindName
  pub seat : SeatView

-- a seat with its kind
abbrev pub booking : KindName → SeatView → Booked
booking k s = record { kind = k; seat = s }
