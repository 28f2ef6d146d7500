-- The shared words, and where each seat is
use Rattle.std.specs.Prelude.{ℕ}
use Rattle.monk_world.specs.declared.place.Place.{Place}

-- `drawn` tickets were drawn, and `unpassed` of them are not passed on. While the monitor is not free, these include
-- the ticket in use. Each ticket has a place, whose number is the ticket's modulo the seats. It holds the last ticket
-- granted there plus 1. `seat_place` counts how often a seat was called. `place` says where a seat is, and `count`
-- how many calls it has found
pub record World : Type 0 where
  pub drawn : ℕ
  pub unpassed : ℕ
  pub ticket_place : ℕ → ℕ
  pub seat_place : ℕ → ℕ
  pub place : ℕ → Place
  pub count : ℕ → ℕ
