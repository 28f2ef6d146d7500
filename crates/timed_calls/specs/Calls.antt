-- What a driver of a floor knows about it
use Rattle.std.specs.Prelude.{◌≡◌, ℕ, ◌<◌}
use Rattle.monk_history.specs.{Meaning.Counts.left_of, Meaning.Turn.turn, declared.event.Turn.TheVariants.Owned}
use Rattle.monk_floor.specs.View.{FloorView}

-- seats and conditions are as many as before
pub record IsSameSize (old new : FloorView) : Type 0 where
  pub seats : new.seats ≡ old.seats
  pub conds : new.conds ≡ old.conds

-- the seat has the turn, and an event left
pub record OwnsTurn (f : FloorView) (seat : ℕ) : Type 0 where
  pub turn_is : turn f.history ≡ Owned seat
  pub within : seat < f.seats
  pub left : 0 < left_of f.budget f.history seat
