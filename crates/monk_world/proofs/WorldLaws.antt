-- A world before any step, and the refusals of a step
use Rattle.std.proofs.Common.{◌≡◌, ℕ, ◌≤◌, cond, Bool, true, false, List, [], ◌||◌, ◌&&◌}
use Rattle.std.proofs.Common.{refl, ap, ◌∙◌, arith}
use Rattle.std.specs.Prelude.{not, nat_lt, Some, None}
use Rattle.monk_kinds.specs.declared.mode.Rules.{Rules}
use Rattle.monk_object.specs.Object.{Object}
use Rattle.monk_history.specs.Limits.{most_seats, most_conds, least_budget, most_budget}
use Rattle.monk_history.specs.Meaning.Counts.{left_of, events_of}
use Rattle.monk_floor.specs.Making as make
use Rattle.monk_floor.specs.declared.fault.MakeFault.TheVariants as fault
use Rattle.monk_floor.specs.View.{FloorView, empty_floor}
use Rattle.monk_world.specs.declared.answer.Answer.TheVariants as answer
use Rattle.monk_world.proofs.RunLaws.{opening_is_sound}
use Rattle.monk_world.specs.{Runs.opening_state, Stands.opening_world, Kept.IsKept, State.State, WorldViews.state_in}
use Rattle.monk_world.specs.StepTable.{may_be_told, is_call_in_range, is_call_offered, call_of, left_for, refusal}
use Rattle.monk_world.specs.declared.{command.Command.Command, words.WorldWords.WorldWords}
use Rattle.std.proofs.lemmas.Bool.Decides.{nat_tests}

-- a world before any step

none_of : (j : ℕ) → events_of [] j ≡ []
unfolding events_of
none_of j = refl

record AreFew (high large : Bool) : Type 0 where
  few : high ≡ false
  low : large ≡ false

few_are : (low_seats high conds small large : Bool)
    → cond (low_seats || high) (Some fault.Seats)
    (cond conds (Some fault.Conds) (cond (small || large) (Some fault.Budget) None)) ≡ None → AreFew high large
few_are false false false false false e = record { few = refl; low = refl }
few_are true high conds small large e = absurd cc
few_are false true conds small large e = absurd cc
few_are false false true small large e = absurd cc
few_are false false false true large e = absurd cc
few_are false false false false true e = absurd cc

not_more : (n m : ℕ) → nat_lt n m ≡ false → m ≤ n
not_more n m e = grind (arith, e)

pub opening_kept : (k : Rules) (o : Object) (opening : List ℕ) (seats conds budget : ℕ)
    → make.make_refusal seats conds budget ≡ None → IsKept k o seats conds (opening_state opening seats conds budget)
opening_kept k o opening seats conds budget free =
    let r = few_are (nat_lt seats 1) (nat_lt most_seats seats) (nat_lt most_conds conds) (nat_lt budget least_budget)
    (nat_lt most_budget budget) free in
    grind (arith, nat_tests, opening_is_sound, not_more, none_of)

pub made_state : (w : WorldWords) (f : FloorView) (opening : List ℕ) (seats conds budget : ℕ)
    → ((g : FloorView) → state_in w g ≡ record { world = opening_world; known = λ j. false; floor = g })
    → f ≡ empty_floor opening seats conds budget → state_in w f ≡ opening_state opening seats conds budget
made_state w f opening seats conds budget shows is = shows f
    ∙ ap (λ (g : FloorView). record (opening_state opening seats conds budget) { floor = g }) is

-- the tests for a refusal: for a command that doesn't fit the seat's place, and for one that passes them all
pub not_now : (k : Rules) (o : Object) (s : State) (i : ℕ) (c : Command)
    → (nat_lt i s.floor.seats && is_call_in_range o s.floor (call_of i c)) ≡ true
    → is_call_offered k (call_of i c) ≡ true
    → may_be_told (s.world.place i) c ≡ false → Some answer.NotNow ≡ refusal k o s i c
not_now k o s i c reach offered told =
    by_tests (nat_lt i s.floor.seats && is_call_in_range o s.floor (call_of i c)) (is_call_offered k (call_of i c))
    (may_be_told (s.world.place i) c) (nat_lt (left_of s.floor.budget s.floor.history i) (left_for c)) reach offered
    told
  where
    by_tests : (a b d e : Bool) → a ≡ true → b ≡ true → d ≡ false
        → Some answer.NotNow ≡ cond (not a) (Some answer.Range)
        (cond (not b) (Some answer.NoCall) (cond (not d) (Some answer.NotNow) (cond e (Some answer.Tired) None)))
    by_tests true true false e x y z = refl
    by_tests false b d e x y z = absurd cc
    by_tests true false d e x y z = absurd cc
    by_tests true true true e x y z = absurd cc

pub not_refused : (k : Rules) (o : Object) (s : State) (i : ℕ) (c : Command)
    → (nat_lt i s.floor.seats && is_call_in_range o s.floor (call_of i c)) ≡ true
    → is_call_offered k (call_of i c) ≡ true
    → may_be_told (s.world.place i) c ≡ true → left_for c ≤ left_of s.floor.budget s.floor.history i
    → None ≡ refusal k o s i c
not_refused k o s i c reach offered told enough =
    by_tests (nat_lt i s.floor.seats && is_call_in_range o s.floor (call_of i c)) (is_call_offered k (call_of i c))
    (may_be_told (s.world.place i) c) (nat_lt (left_of s.floor.budget s.floor.history i) (left_for c)) reach offered
    told
    (not_below (left_of s.floor.budget s.floor.history i) (left_for c) enough)
  where
    not_below : (n m : ℕ) → m ≤ n → nat_lt n m ≡ false
    not_below n m l = grind (arith, l)

    by_tests : (a b d e : Bool) → a ≡ true → b ≡ true → d ≡ true → e ≡ false
        → None ≡ cond (not a) (Some answer.Range)
        (cond (not b) (Some answer.NoCall) (cond (not d) (Some answer.NotNow) (cond e (Some answer.Tired) None)))
    by_tests true true true false x y z u = refl
    by_tests false b d e x y z u = absurd cc
    by_tests true false d e x y z u = absurd cc
    by_tests true true false e x y z u = absurd cc
    by_tests true true true true x y z u = absurd cc
