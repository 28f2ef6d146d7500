-- A seat that has arrived, and then has polled
use Rattle.std.specs.Prelude.{◌≡◌, ℤ, None}
use Rattle.monk_kinds.specs.declared.mode.Pick.TheVariants as pick
use Rattle.monk_kinds.specs.declared.mode.Rules.{Rules}
use Rattle.monk_c.specs.{Refusal.refusal_at, Refusal.refusal_of, Stands.SeatView, Taken.Answers}
use Rattle.monk_c.specs.Handles.{AnswersAt, booked}
use Rattle.monk_c.specs.declared.{any_seat.AnySeat.AnySeat, call.Call.TheVariants.Arrive, call.Call.TheVariants.Poll}

-- the seat has come: it arrived, and then looked
pub record HasCome (s : AnySeat) (code : ℤ) (t : AnySeat) : Type 0 where
  pub between : AnySeat
  pub answer : ℤ
  pub arrived : AnswersAt Arrive pick.Waiter (booked s) answer 0 (booked between)
  pub polled : AnswersAt Poll pick.Waiter (booked between) code 0 (booked t)

-- the same for a seat of a monitor of a kind
pub record Comes (k : Rules) (s : SeatView) (code : ℤ) (t : SeatView) : Type 0 where
  pub between : SeatView
  pub answer : ℤ
  pub arrived : Answers k Arrive pick.Waiter s answer 0 between
  pub polled : Answers k Poll pick.Waiter between code 0 t

-- a seat that isn't refused comes
abbrev pub IfComes : Rules → SeatView → ℤ → SeatView → Type 0
IfComes k s code t = refusal_of k.mode s Arrive ≡ None → Comes k s code t

-- the same for what a handle has
abbrev pub IfComesAt : AnySeat → ℤ → AnySeat → Type 0
IfComesAt s code t = refusal_at (booked s) Arrive ≡ None → HasCome s code t
