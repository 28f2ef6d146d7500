-- What the rule says about the history at home
use Rattle.std.proofs.Common.{◌≡◌, ◌≢◌, ℕ, List, [], ◌∷◌, length, sym, ap, subst, ◌∙◌, arith}
use Rattle.std.proofs.Math.Option.{some-injective}
use mathlib.Core.Option.{some}
use lib.ListN.{get_elem?}
use Rattle.monk_kinds.specs.declared.mode.Rules.{Rules}
use Rattle.monk_object.specs.Object.{Object}
use Rattle.monk_world.specs.Places.{stage, active_stage}
use Rattle.monk_hall.proofs.{RecordLaws.is, RecordLaws.recorded, Standing.active_at}
use Rattle.monk_hall.specs.{Changes.source_from, Floors.StartsWith, Rule.IsHall}
use Rattle.monk_hall.specs.Laws.{HallState, IsRecord, IsHomeHistory, HasHomeHistory}
use Rattle.monk_hall.specs.declared.{record.SeatRecord.SeatRecord, setting.Setting.Setting}

-- a list of one element is its first
alone_in : {A : Type 0} (xs : List A) (x : A) → length xs ≡ 1 → get_elem? xs 0 ≡ some x → xs ≡ x ∷ []
alone_in [] x one first = absurd (omega arith)
alone_in {A} (y ∷ []) x one first = ap (λ (z : A). z ∷ []) (some-injective y x first)
alone_in (y ∷ z ∷ zs) x one first = absurd (omega arith)

module _ (k : Rules) (o : Object) (c : Setting) (s : HallState) (h : IsHall k o c s) where
  -- each seat of the hall has its record, and no other is active
  nobody : ((r : SeatRecord) → IsRecord s r → stage r.place ≢ active_stage) → (j : ℕ)
      → stage (h.0 j).place ≢ active_stage
  nobody none j active = none (h.0 j) (recorded k o c s h j (λ e. absurd (omega arith))) active

  pub home_history : IsHomeHistory k o c s h.2.past
  home_history = let told = h.2.told in record {
    legal = told.legal;
    lent = λ r x active.
        let stands = ap (λ (y : SeatRecord). y.place) (is k o c s h r x) ∙ active_at r.place active in
        let lent = told.lent r.seat (source_from r.place) stands in
        (alone_in s.homes _ told.one_slot lent.2, sym (ap (λ (y : SeatRecord). y.seen) (is k o c s h r x)) ∙ lent.0);
    home = λ none. alone_in s.homes _ told.one_slot (told.home (nobody none)).1;
    starts = λ r x. subst (λ (y : SeatRecord). StartsWith h.2.past y.seen) (is k o c s h r x) (told.starts r.seat);
    own = λ r x. told.mine r.seat ∙ ap (λ (y : SeatRecord). y.mine) (is k o c s h r x);
  }

pub has_home_history : HasHomeHistory
has_home_history k o c s h = (h.2.past, home_history k o c s h)
