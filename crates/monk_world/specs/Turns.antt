-- The turn of the history agrees with where the right is
use Rattle.std.specs.Prelude.{◌≡◌, ◌≢◌, ℕ}
use Rattle.monk_history.specs.declared.event.Turn.{Turn, TheVariants.Open, TheVariants.Due, TheVariants.Owned}
use Rattle.monk_world.specs.declared.place.Place.TheVariants as at
use Rattle.monk_world.specs.{Right.Whereabouts, Right.Nowhere, Right.AtTicket, Right.With, Right.AtSeat, World.World}
use Rattle.monk_world.specs.Places.{stage, open_turn, due_to, owned_by, turn_of_next, active_stage}
use Rattle.monk_world.specs.declared.place.Place.{Place}
use Rattle.monk_world.specs.declared.source.Source.{Source, TheVariants.Free, TheVariants.Granted, TheVariants.Called}

-- the number of a turn
abbrev pub turn_number : Turn → ℕ
turn_number Open = open_turn
turn_number (Due j q) = due_to j
turn_number (Owned j) = owned_by j

-- the number of the turn in which a seat may become active
abbrev pub turn_from : ℕ → Source → ℕ
turn_from j (Free t) = open_turn
turn_from j (Granted t) = open_turn
turn_from j Called = due_to j

-- the turn if seat j has the right and is at that place, not active
abbrev pub turn_at : ℕ → Place → ℕ
turn_at j at.Idle = open_turn
turn_at j (at.Ticket t) = open_turn
turn_at j (at.Due q) = turn_from j q
turn_at j (at.Active q) = open_turn
turn_at j (at.Back next home) = turn_of_next next
turn_at j (at.Passing t home) = open_turn
turn_at j at.Inner = open_turn

-- `turn` is the number of the turn, by where the right is. For an active seat nothing is said, because the history
-- may have grown
abbrev pub FitsTurn : World → Whereabouts → ℕ → Type 0
FitsTurn w Nowhere turn = turn ≡ open_turn
FitsTurn w (AtTicket t) turn = turn ≡ open_turn
FitsTurn w (With j) turn = stage (w.place j) ≢ active_stage → turn ≡ turn_at j (w.place j)
FitsTurn w (AtSeat j) turn = turn ≡ due_to j
