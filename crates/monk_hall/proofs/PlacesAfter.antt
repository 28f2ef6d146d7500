-- What a seat holds, and how it came, at the place where each step leaves it
use Rattle.std.proofs.Common.{◌≡◌, ℕ, ◌+◌, ◌-◌, ◌≤◌, Bool, false, List, [], ◌∷◌}
use Rattle.std.proofs.Common.{sym, ◌∙◌, arith}
use Rattle.std.proofs.lemmas.{Option.none-some, Bool.Decides.nat_tests}
use Rattle.std.specs.Prelude.{Option, Some, None}
use Rattle.monk_history.specs.Meaning.{Counts.is_enter, Release.with_next}
use Rattle.monk_history.specs.declared.event.{Event.Event, Next.Next, Turn.Turn}
use Rattle.monk_world.specs.{Places.place_of, StepTable.out_event}
use Rattle.monk_world.specs.Steps.{place_after_arrive, place_after_ticket_look, place_after_seat_look, place_after_drop}
use Rattle.monk_world.specs.declared.{source.Source.Source, home.Home.Home}
use Rattle.monk_hall.proofs.ScheduleLaws.{held, came_by, ticket_by}
use Rattle.monk_hall.specs.{Schedules.entered, Tells.IsReleaseTo}

pub held_arrived : (t n : ℕ) → held (place_after_arrive t n) ≡ Some t
held_arrived t n = grind (arith, nat_tests)

pub held_looked : (t : ℕ) (found : Bool) → held (place_after_ticket_look t found) ≡ Some t
held_looked t found = grind (arith, nat_tests)

pub held_answered : (found : Bool) → held (place_after_seat_look found) ≡ None
held_answered found = grind (arith, nat_tests)

pub held_home : (to : Home) → held (place_of to) ≡ None
held_home to = grind (arith, nat_tests)

pub held_dropped : (t n : ℕ) (to : Home) → held (place_after_drop t n to) ≡ None
held_dropped t n to = grind (arith, nat_tests)

pub none_held : {o : Option ℕ} (t : ℕ) → o ≡ None → o ≡ Some t → ⊥
none_held t is_none e = none-some t (sym is_none ∙ e)

pub came_arrived : (t n : ℕ) → came_by (place_after_arrive t n) ≡ None
came_arrived t n = grind (arith, nat_tests)

pub came_looked : (t : ℕ) (found : Bool) → came_by (place_after_ticket_look t found) ≡ None
came_looked t found = grind (arith, nat_tests)

pub came_answered : (found : Bool) → came_by (place_after_seat_look found) ≡ None
came_answered found = grind (arith, nat_tests)

pub came_home : (to : Home) → came_by (place_of to) ≡ None
came_home to = grind (arith, nat_tests)

-- a seat that passes the right on after a drop passes it to the ticket whose number is that of the enters so far
pub came_dropped : (t n e : ℕ) (to : Home) → n ≤ t → t + 1 ≡ n + e → (m : ℕ)
    → came_by (place_after_drop t n to) ≡ Some m → e ≡ m
came_dropped t n e to h h' m h'' = grind (arith, nat_tests)

-- no release is an enter
pub release_enters : (i : ℕ) (to : Home) (call : Event) (x : Next) → IsReleaseTo i to call
    → is_enter (with_next x call) ≡ false
release_enters i to call x r = grind (arith, nat_tests)

-- a seat that comes by a ticket enters, and any other resumes
pub came_enters : (i : ℕ) (q : Source) (u : Turn) (t : ℕ) → ticket_by q ≡ Some t → (rest : List Event)
    → entered rest ≡ [] → entered (out_event i q u ∷ rest) ≡ i ∷ []
came_enters i q u t e rest nobody = grind (arith, nat_tests)

pub came_resumes : (i : ℕ) (q : Source) (u : Turn) → ticket_by q ≡ None → (rest : List Event) → entered rest ≡ []
    → entered (out_event i q u ∷ rest) ≡ []
came_resumes i q u e rest nobody = grind (arith, nat_tests)
