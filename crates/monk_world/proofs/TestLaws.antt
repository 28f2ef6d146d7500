-- From tests to facts, and back
use Rattle.std.proofs.Common.{◌≡◌, ◌≢◌, ℕ, true, false, cond, Bool, refl, ap, arith}
use Rattle.std.proofs.lemmas.Bool.{lt-ltb, Decides.nat_tests}
use Rattle.std.specs.Prelude.{nat_lt, Some}
use Rattle.monk_kinds.specs.declared.mode.Rules.{Rules}
use Rattle.monk_object.specs.Object.{Object}
use Rattle.monk_history.specs.declared.event.Next.TheVariants as next
use Rattle.monk_history.specs.Meaning.{Counts.chooses_seat, Entry.IsQuiet, Events.is_stay, Turn.turn_by}
use Rattle.monk_history.specs.declared.event.{From3.From3, Next.Next}
use Rattle.monk_history.specs.declared.event.Turn.{Turn, TheVariants.Open, TheVariants.Due, TheVariants.Owned}
use Rattle.monk_floor.specs.View.{FloorView, monitor_of}
use Rattle.monk_world.specs.{Places.open_turn, Places.due_to, Places.turn_of_next, State.is_quiet, Turns.turn_number}

pub none_below : (n : ℕ) → nat_lt 0 n ≡ false → n ≡ 0
none_below n e = grind (arith, e)

pub some_above : (n : ℕ) → n ≢ 0 → nat_lt 0 n ≡ true
some_above n ne = lt-ltb 0 n (omega arith)

pub quiet_is : (k : Rules) (o : Object) (f : FloorView) → is_quiet k o f ≡ true → IsQuiet (monitor_of k o f) f.history
quiet_is k o f e = grind (arith, nat_tests)

pub is_quiet-true : (k : Rules) (o : Object) (f : FloorView) → IsQuiet (monitor_of k o f) f.history
    → is_quiet k o f ≡ true
is_quiet-true k o f q = rw (q.waiters, q.signallers, q.ready) refl

pub open_is : (u : Turn) → turn_number u ≡ open_turn → u ≡ Open
open_is u e = grind (arith, nat_tests)

pub due_is : (u : Turn) (i : ℕ) → turn_number u ≡ due_to i → (q : From3) × (u ≡ Due i q)
due_is Open i e = absurd (omega arith)
due_is (Due j q) i e = let same : j ≡ i = omega arith in (q, ap (λ (k : ℕ). Due k q) same)
due_is (Owned j) i e = absurd (omega arith)

pub number_chosen : (i : ℕ) (x : Next) → is_stay (Some x) ≡ false → turn_number (turn_by i (Some x)) ≡ turn_of_next x
number_chosen i x e = grind (arith, nat_tests)

pub names_chosen : (x : Next) (k : ℕ) → turn_of_next x ≡ due_to k → chooses_seat k (Some x) ≡ true
names_chosen x k e = grind (arith, nat_tests)

pub entry_chosen : (x : Next) → is_stay (Some x) ≡ false → turn_of_next x ≡ open_turn → x ≡ next.Entry
entry_chosen x s e = grind (arith, nat_tests)

pub outside_is : (inside : Bool) → ◌≡◌ {A = ℕ} 0 (cond inside 1 0) → inside ≡ false
outside_is inside e = grind (arith, nat_tests)
