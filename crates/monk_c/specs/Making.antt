-- What is made: a hall, and a seat of it for each handle
use Rattle.std.specs.Prelude.{◌≡◌, ◌⊎◌, ℕ, ℤ, pos, ◌<◌, ◌≤◌, Option, Some, None, Result, Ok, Err, List, length, slice_get, slice_index_or}
use Rattle.monk_kinds.specs.{Names.kinds, declared.name.KindName.KindName}
use Rattle.monk_c.specs.{Answers.refusal_number, Handles.seat_named, Stands.RoomView}
use Rattle.monk_c.specs.Dealing.{IsMadeOf, IsMakeRefusal, fresh_view}
use Rattle.monk_c.specs.declared.{any_seat.AnySeat.AnySeat, handle.MonkSeat.MonkSeat, numbers.Numbers.Numbers}
use Rattle.monk_c.specs.declared.refusal.Refusal.{Refusal, TheVariants.Range}

-- the kinds by the numbers that C has for them
abbrev pub kind_of : ℕ → Option KindName
kind_of n = slice_get kinds n

-- a handle's seat of that kind, outside with the pass of seat i
abbrev pub fresh_seat : KindName → RoomView → ℕ → AnySeat
fresh_seat k r i = seat_named k (fresh_view r i)

-- each handle from that number on has got its seat of the hall
abbrev pub AreFresh : KindName → RoomView → ℕ → List MonkSeat → List MonkSeat → Type 0
AreFresh k room from old new =
    (i : ℕ) (d : MonkSeat) → from ≤ i → i < length old
    → slice_index_or new i d ≡ record (slice_index_or old i d) { has = fresh_seat k room i }

-- handle i has the pass of seat i of a new hall
pub record AreSeated (k : KindName) (n : Numbers) (old new : List MonkSeat) : Type 0 where
  pub room : RoomView
  pub made : IsMadeOf n room
  pub count : length new ≡ length old
  pub each : AreFresh k room 0 old new

-- what making gives: without a kind of that number, a refusal
abbrev pub MadeOf : {U : Type 0} → Option KindName → Numbers → List MonkSeat → Result U Refusal → List MonkSeat → Type 0
MadeOf None n old (Ok u) new = ⊥
MadeOf None n old (Err f) new = (f ≡ Range) × (new ≡ old)
MadeOf (Some k) n old (Ok u) new = AreSeated k n old new
MadeOf (Some k) n old (Err f) new = IsMakeRefusal n f × (new ≡ old)

-- the numbers of a hall with a seat for each of these handles
abbrev pub numbers_for : ℕ → ℕ → ℕ → List MonkSeat → Numbers
numbers_for conds flags budget handles =
    record { seats = length handles; conds = conds; flags = flags; budget = budget }

-- the answer to C: 0 if each handle has its seat, or why not, and then nothing has changed
abbrev pub Answered : Option KindName → Numbers → List MonkSeat → ℤ → List MonkSeat → Type 0
Answered k n old code new =
    ((code ≡ pos 0) × MadeOf {U = Unit {0}} k n old (Ok tt) new)
    ⊎ ((f : Refusal) × (code ≡ refusal_number f) × MadeOf {U = Unit {0}} k n old (Err f) new)

-- a monitor is made as asked, or the call is refused
abbrev pub IsMade : ℕ → ℕ → ℕ → ℕ → List MonkSeat → ℤ → List MonkSeat → Type 0
IsMade kind conds flags budget old code new = Answered (kind_of kind) (numbers_for conds flags budget old) old code new
