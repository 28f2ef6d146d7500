-- A world that fits its history
use Rattle.std.specs.Prelude.{ℕ, Bool}
use Rattle.monk_world.specs.{Turns.FitsTurn, Queueing.FitsQueues, World.World, declared.place.Place.TheVariants.Idle}
use Rattle.monk_world.specs.Right.{Whereabouts, KeepsRight}

-- the right is in one place, and turn and queues agree with it
pub record Stands (seats : ℕ) (w : World) (right : Whereabouts) (owner : ℕ → ℕ) (turn : ℕ) (queued : ℕ → Bool)
    (quiet : Bool) : Type 0 where
  pub keeps : KeepsRight seats w right owner
  pub fits_turn : FitsTurn w right turn
  pub fits_queues : FitsQueues w queued quiet

-- the world before any step
abbrev pub opening_world : World
opening_world =
    record { drawn = 0; unpassed = 0; ticket_place = λ i. 0; seat_place = λ i. 0; place = λ j. Idle; count = λ j. 0 }
