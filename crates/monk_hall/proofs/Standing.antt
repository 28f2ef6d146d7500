-- Where a seat is, by its stage
use Rattle.std.proofs.Common.{◌≡◌, ◌≢◌, ℕ, Bool, arith}
use Rattle.monk_world.specs.Places.{stage, ticket, back_turn, open_turn, place_of, ticketed_stage, due_stage}
use Rattle.monk_world.specs.Places.{active_stage, back_stage, passing_stage, inside_stage}
use Rattle.monk_world.specs.Steps.{place_after_arrive, place_after_ticket_look, place_after_seat_look, place_after_drop}
use Rattle.monk_world.specs.declared.{home.Home.Home}
use Rattle.monk_world.specs.declared.place.Place.{Place}
use Rattle.monk_world.specs.declared.place.Place.TheVariants.{Ticket, Due, Active, Passing, Inner}
use Rattle.monk_hall.specs.Changes.{source_from, home_at}
use Rattle.std.proofs.lemmas.Bool.Decides.{nat_tests}

pub ticket_at : (p : Place) → stage p ≡ ticketed_stage → p ≡ Ticket (ticket p)
ticket_at p e = grind (arith, nat_tests)

pub due_at : (p : Place) → stage p ≡ due_stage → p ≡ Due (source_from p)
due_at p e = grind (arith, nat_tests)

pub active_at : (p : Place) → stage p ≡ active_stage → p ≡ Active (source_from p)
active_at p e = grind (arith, nat_tests)

pub passing_at : (p : Place) → stage p ≡ passing_stage → p ≡ Passing (ticket p) (home_at p)
passing_at p e = grind (arith, nat_tests)

pub inner_at : (p : Place) → stage p ≡ inside_stage → p ≡ Inner
inner_at p e = grind (arith, nat_tests)

-- a place that has neither the floor nor a choice that is not handed on
pub record IsApart (p : Place) : Type 0 where
  pub not_active : stage p ≢ active_stage
  pub not_back : stage p ≢ back_stage
  pub chose : back_turn p ≡ open_turn

pub apart_home : (to : Home) → IsApart (place_of to)
apart_home to = grind (arith, nat_tests)

pub apart_arrived : (t n : ℕ) → IsApart (place_after_arrive t n)
apart_arrived t n = grind (arith, nat_tests)

pub apart_looked : (t : ℕ) (found : Bool) → IsApart (place_after_ticket_look t found)
apart_looked t found = grind (arith, nat_tests)

pub apart_answered : (found : Bool) → IsApart (place_after_seat_look found)
apart_answered found = grind (arith, nat_tests)

pub apart_dropped : (t n : ℕ) (to : Home) → IsApart (place_after_drop t n to)
apart_dropped t n to = grind (arith, nat_tests)
