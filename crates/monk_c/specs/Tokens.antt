-- Where a seat is by its token
use Rattle.monk_hall.specs.declared.after.After.TheVariants as after
use Rattle.monk_hall.specs.declared.after.After.{After}
use Rattle.monk_c.specs.declared.token.SeatToken.TheVariants as token
use Rattle.monk_c.specs.Stands.{At, At.Outside, At.Waiting, At.Inside}
use Rattle.monk_c.specs.declared.token.SeatToken.{SeatToken}

-- where the token's seat is
abbrev pub at_of : {K : Type 0} → SeatToken K → At
at_of (token.Outside p) = Outside p
at_of (token.Waiting p) = Waiting p
at_of (token.Inside a) = Inside a

-- where the seat of a token is after a call
abbrev pub at_after : {K T : Type 0} → After K T → At
at_after (after.Active a) = Inside a
at_after (after.Parked p) = Waiting p
