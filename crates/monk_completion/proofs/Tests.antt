-- The tests of an event, from the reason and back to it; and which tests a call has passed
use Rattle.std.proofs.Common.{◌≡◌, ℕ, Bool, true, false, cond, not, None, arith}
use Rattle.std.specs.Prelude.{◌==◌, Ok, Err}
use Rattle.monk_history.specs.Meaning.{Events.answered_act, Monitor.Monitor, Choice.is_permitted, Situation.Situation}
use Rattle.monk_history.specs.Meaning.Reasons.{IsAllowedIn, reason_before, reason_in, is_in_range, is_offered}
use Rattle.monk_history.specs.Meaning.Reasons.{is_in_turn, is_in_place, fits_object}
use Rattle.monk_history.specs.Meaning.Release.{MayCallIn, as_called}
use Rattle.monk_history.specs.declared.event.Event.{Event}
use Rattle.std.proofs.lemmas.Bool.Decides.{nat_tests}

-- ---- what was added if a test passed

pub passed : {X E : Type 0} (n : ℕ) (x y : X) (why : E) → cond (n == 0) (Ok x) (Err why) ≡ Ok y → (n ≡ 0) × (x ≡ y)
passed n x y why h = grind arith

pub passes : {X E : Type 0} (n : ℕ) (x : X) (why : E) → n ≡ 0 → cond (n == 0) (Ok x) (Err why) ≡ Ok x
passes n x why h = grind arith

-- ---- the tests 1 to 4

abbrev first_of_four : Bool → Bool → Bool → Bool → ℕ
first_of_four a b c d = cond (not a) 1 (cond (not b) 2 (cond (not c) 3 (cond (not d) 4 0)))

four_passed : (a b c d : Bool) → first_of_four a b c d ≡ 0 → (a ≡ true) × (b ≡ true) × (c ≡ true) × (d ≡ true)
four_passed a b c d h = grind arith

pub called_from_tests : (m : Monitor) (t : Situation) (e : Event) → reason_before 0 m t e ≡ 0 → MayCallIn m t e
called_from_tests m t e h =
    let p = four_passed (is_in_range m.seats m.conds m.object.codes m.object.predicates e) (is_offered m.kind e)
    (is_in_turn t e) (is_in_place m.object t e) h in
    record { in_range = p.0; offered = p.1; in_turn = p.2; in_place = p.3 }

-- ---- all six

abbrev first_of_six : Bool → Bool → Bool → Bool → Bool → Bool → ℕ
first_of_six a b c d e f =
    cond (not a) 1 (cond (not b) 2 (cond (not c) 3 (cond (not d) 4 (cond (not e) 5 (cond (not f) 6 0)))))

pub reason_from_allowed : (m : Monitor) (t : Situation) (e : Event) → IsAllowedIn m t e → reason_in m t e ≡ 0
unfolding reason_in
reason_from_allowed m t e h = grind arith

-- ---- a release, which has no test of the reply

early_fails : (a b c d e f : Bool) → (first_of_four a b c d ≡ 0 → ⊥) → (first_of_six a b c d e f == 0) ≡ false
early_fails a b c d e f h = grind arith

last_decides : (a b c d e f : Bool) → first_of_four a b c d ≡ 0 → e ≡ true → (first_of_six a b c d e f == 0) ≡ f
last_decides a b c d e f h h2 = grind arith

pub early_refused : (m : Monitor) (t : Situation) (e : Event) (n : ℕ) → n ≡ reason_before 0 m t e → (n ≡ 0 → ⊥)
    → (reason_in m t e == 0) ≡ false
unfolding reason_in
early_refused m t e n is h = omega (arith, early_fails)

pub permitted_only : (m : Monitor) (t : Situation) (e : Event) → 0 ≡ reason_before 0 m t e → answered_act e ≡ None
    → (reason_in m t e == 0) ≡ is_permitted m.kind m.object t e
unfolding reason_in
permitted_only m t e is none = grind (arith, nat_tests, last_decides)

-- what may be called only needs what the object has
pub called_fits : (m : Monitor) (t : Situation) (e : Event) (codes predicates : ℕ) → MayCallIn m t e
    → m.object.codes ≡ codes → m.object.predicates ≡ predicates → fits_object codes predicates e ≡ true
called_fits m t e codes predicates h h2 h3 = grind arith

-- ---- what is allowed may be called, even by what its caller knows

module _ (m : Monitor) (t : Situation) where
  pub allowed_called : (e : Event) → IsAllowedIn m t e → MayCallIn m t (as_called e)
  allowed_called e h = grind arith
