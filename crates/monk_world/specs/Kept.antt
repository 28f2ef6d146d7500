-- What a world keeps
use Rattle.std.specs.Prelude.{◌≡◌, ℕ, zero, suc, ◌+◌, ◌≤◌, length}
use Rattle.monk_kinds.specs.declared.mode.Rules.{Rules}
use Rattle.monk_object.specs.Object.{Object}
use Rattle.monk_history.specs.{Limits.most_seats, Limits.most_budget, Meaning.Counts.events_of}
use Rattle.monk_world.specs.{Sound.Sound, State.State}
use Rattle.monk_world.specs.declared.place.Place.{Place}
use Rattle.monk_world.specs.declared.place.Place.TheVariants.{Idle, Ticket, Due, Active, Back, Passing, Inner}
use Rattle.monk_world.specs.declared.source.Source.TheVariants.{Free, Granted, Called}

-- 1 if the seat has drawn a ticket and doesn't have the floor yet
abbrev pub comes_in : Place → ℕ
comes_in Idle = 0
comes_in (Ticket t) = 1
comes_in (Due q) = 1
comes_in (Active q) = 0
comes_in (Back next home) = 0
comes_in (Passing t home) = 0
comes_in Inner = 0

-- 1 if the seat was called and doesn't have the floor yet
abbrev pub comes_back : Place → ℕ
comes_back Idle = 0
comes_back (Ticket t) = 0
comes_back (Due (Free t)) = 0
comes_back (Due (Granted t)) = 0
comes_back (Due Called) = 1
comes_back (Active q) = 0
comes_back (Back next home) = 0
comes_back (Passing t home) = 0
comes_back Inner = 0

-- the sum over the seats below that number
abbrev pub sum_below : ℕ → (ℕ → ℕ) → ℕ
sum_below zero f = 0
sum_below (suc n) f = f n + sum_below n f

-- no word is greater than the events allow
pub record IsBounded (s : State) : Type 0 where
  pub few : s.floor.seats ≤ most_seats
  pub low : s.floor.budget ≤ most_budget
  pub within : (j : ℕ) → length (events_of s.floor.history j) ≤ s.floor.budget
  pub outside : (j : ℕ) → s.floor.seats ≤ j → length (events_of s.floor.history j) ≡ 0
  pub drawn : s.world.drawn ≤ length s.floor.history + sum_below s.floor.seats (λ j. comes_in (s.world.place j))
  pub counted : (j : ℕ) → s.world.count j ≤ length (events_of s.floor.history j) + comes_back (s.world.place j)

-- a sound world with these numbers of seats and conditions
pub record IsKept (k : Rules) (o : Object) (seats conds : ℕ) (s : State) : Type 0 where
  pub sound : Sound k o s
  pub bounded : IsBounded s
  pub seats_are : seats ≡ s.floor.seats
  pub conds_are : conds ≡ s.floor.conds
