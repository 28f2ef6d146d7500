-- What a handle has after it lent what it has
use Rattle.std.specs.Borrow.{Lends, MutBor, Fml}
use Rattle.monk_c.specs.contracts.{any_seat.AnySeat.the_row as seat_row, handle.MonkSeat.the_row as handle_row}
use Rattle.monk_c.specs.declared.{any_seat.AnySeat.AnySeat, handle.MonkSeat.MonkSeat}

-- the handle with another in its place
abbrev pub with_has : MonkSeat → AnySeat → MonkSeat
with_has s x = record s { has = x }

-- when the borrow ends, the handle has what was written last
abbrev pub LendsHeld : MutBor MonkSeat → MutBor AnySeat → Fml
LendsHeld s r = Lends handle_row seat_row s r (with_has s.now)
