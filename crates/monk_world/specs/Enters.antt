-- The enters of the history agree with the tickets
use Rattle.std.specs.Prelude.{◌≡◌, ℕ, ◌+◌}
use Rattle.monk_world.specs.{Right.Whereabouts, Right.Nowhere, Right.AtTicket, Right.With, Right.AtSeat, World.World}
use Rattle.monk_world.specs.declared.place.Place.{Place}
use Rattle.monk_world.specs.declared.place.Place.TheVariants.{Idle, Ticket, Due, Active, Back, Passing, Inner}
use Rattle.monk_world.specs.declared.source.Source.{Source, TheVariants.Free, TheVariants.Granted, TheVariants.Called}

-- 1 if the seat was called from a queue, and else 0
abbrev pub used_by : Source → ℕ
used_by (Free t) = 0
used_by (Granted t) = 0
used_by Called = 1

-- 1 if the seat has the right and the enter for the ticket in use is recorded, and else 0
abbrev pub used_at : Place → ℕ
used_at Idle = 0
used_at (Ticket t) = 0
used_at (Due q) = used_by q
used_at (Active q) = 1
used_at (Back next home) = 1
used_at (Passing t home) = 0
used_at Inner = 0

-- the same, wherever the right is
abbrev pub used_in : World → Whereabouts → ℕ
used_in w Nowhere = 0
used_in w (AtTicket t) = 0
used_in w (With j) = used_at (w.place j)
used_in w (AtSeat j) = 1

-- `entered` is the number of enters. It counts all tickets that are passed on, and the one in use after its enter
abbrev pub FitsEnters : World → Whereabouts → ℕ → Type 0
FitsEnters w right entered = entered + w.unpassed ≡ w.drawn + used_in w right
