-- A shop loses no customer
use Rattle.std.proofs.Common.{◌≡◌, ℕ, ◌+◌, ◌-◌, ◌<◌, ◌≤◌, ◌==◌, Bool, true, false, cond, List, [], ◌∷◌, refl, sym, subst, arith}
use Rattle.std.{specs.Prelude.nat_lt, proofs.lemmas.Bool.eqb-true, proofs.lemmas.Bool.ltb-true}
use Rattle.monk_object.proofs.Codes.{both, by_code, once, once-false, counted}
use Rattle.monk_object.specs.{Shop.SIT, Shop.CALL, Shop.FINISH, Shop.DEPART, Shop.shop_meaning, Shop.shop_after}
use Rattle.monk_object.specs.{Shop.shop_reply, Shop.shop_serves, Shop.shop_served, Laws.LosesNoCustomer, Runs.Answered}
use Rattle.monk_object.specs.{Runs.state_after, Runs.answers_of, Runs.times_done, declared.op.Op.Op}
use Rattle.std.proofs.lemmas.Bool.Decides.{nat_tests}

abbrev where_it_is : ℕ → ℕ → ℕ
where_it_is k chair = cond (chair == k) 1 0

record Step (size sitting chair code : ℕ) (served : Bool) (next : List ℕ) : Type 0 where
  sitting_next : ℕ
  chair_next : ℕ
  state : next ≡ size ∷ sitting_next ∷ chair_next ∷ []
  within : sitting_next ≤ size
  sat : once SIT code served + sitting ≡ once CALL code served + sitting_next
  called : once CALL code served + where_it_is 1 chair ≡ once FINISH code served + where_it_is 1 chair_next
  finished : once FINISH code served + where_it_is 2 chair ≡ once DEPART code served + where_it_is 2 chair_next

done : (size sitting chair : ℕ) → sitting ≤ size → (code : ℕ)
    → shop_serves size sitting chair code ≡ true
    → Step size sitting chair code true (shop_served size sitting chair code)
done size sitting chair within = by_code
    (λ code. shop_serves size sitting chair code ≡ true
    → Step size sitting chair code true (shop_served size sitting chair code))
    (λ e. let less : sitting < size = ltb-true _ _ e in
    record {
      sitting_next = sitting + 1;
      chair_next = chair;
      state = refl;
      within = omega arith;
      sat = omega arith;
      called = refl;
      finished = refl;
    })
    (λ e. let parts = both (nat_lt 0 sitting) (chair == 0) e in
    let some : 0 < sitting = ltb-true _ _ parts.0 in
    let there : chair ≡ 0 = eqb-true _ _ parts.1 in
    record {
      sitting_next = sitting - 1;
      chair_next = 1;
      state = refl;
      within = omega arith;
      sat = omega arith;
      called =
          rw there refl;
      finished = rw there refl;
    })
    (λ e. let there : chair ≡ 1 = eqb-true _ _ e in
    record {
      sitting_next = sitting;
      chair_next = 2;
      state = refl;
      within = within;
      sat = refl;
      called = rw there refl;
      finished = rw there refl;
    })
    (λ e. let there : chair ≡ 2 = eqb-true _ _ e in
    record {
      sitting_next = sitting;
      chair_next = 0;
      state = refl;
      within = within;
      sat = refl;
      called = rw there refl;
      finished = rw there refl;
    })
    (λ code n0 n1 n2 n3 e. absurd (none code n0 n1 n2 n3 e))
  where
    none : (code : ℕ) → (code == 0) ≡ false → (code == 1) ≡ false → (code == 2) ≡ false → (code == 3) ≡ false
        → shop_serves size sitting chair code ≡ true → ⊥
    none code n0 n1 n2 n3 e = let f : false ≡ true = rw (n0, n1, n2, n3) at e in absurd cc

step : (size sitting chair : ℕ) → sitting ≤ size → (code : ℕ) (served : Bool)
    → shop_serves size sitting chair code ≡ served
    → Step size sitting chair code served
    (cond served (shop_served size sitting chair code) (size ∷ sitting ∷ chair ∷ []))
step size sitting chair within code true e = done size sitting chair within code e
step size sitting chair within code false e = record {
  sitting_next = sitting;
  chair_next = chair;
  state = refl;
  within = within;
  sat = rw (once-false SIT code, once-false CALL code) refl;
  called = rw (once-false CALL code, once-false FINISH code) refl;
  finished = rw (once-false FINISH code, once-false DEPART code) refl;
}

-- from a state with some sitting and the chair in some state
record Run (size sitting chair : ℕ) (start : List ℕ) (ops : List Op) : Type 0 where
  sitting_last : ℕ
  chair_last : ℕ
  state : state_after shop_meaning start ops ≡ size ∷ sitting_last ∷ chair_last ∷ []
  within : sitting_last ≤ size
  sat : times_done SIT (answers_of shop_meaning start ops) + sitting
      ≡ times_done CALL (answers_of shop_meaning start ops) + sitting_last
  called : times_done CALL (answers_of shop_meaning start ops) + where_it_is 1 chair ≡ times_done FINISH
      (answers_of shop_meaning start ops) + where_it_is 1 chair_last
  finished : times_done FINISH (answers_of shop_meaning start ops) + where_it_is 2 chair ≡ times_done DEPART
      (answers_of shop_meaning start ops) + where_it_is 2 chair_last

run : (size sitting chair : ℕ) → sitting ≤ size → (ops : List Op)
    → Run size sitting chair (size ∷ sitting ∷ chair ∷ []) ops
run size sitting chair within [] =
    record {
      sitting_last = sitting;
      chair_last = chair;
      state = refl;
      within = within;
      sat = refl;
      called = refl;
      finished = refl;
    }
run size sitting chair within (op ∷ ops) =
    let s = step size sitting chair within op.code (shop_serves size sitting chair op.code) refl in
    let r = subst (λ start. Run size s.sitting_next s.chair_next start ops) (sym s.state)
    (run size s.sitting_next s.chair_next s.within ops) in
    let act : Answered = record { op = op; reply = shop_reply (size ∷ sitting ∷ chair ∷ []) op } in
    let acts = answers_of shop_meaning (shop_after (size ∷ sitting ∷ chair ∷ []) op) ops in
    record {
      sitting_last = r.sitting_last;
      chair_last = r.chair_last;
      state = r.state;
      within = r.within;
      sat = counted SIT CALL act acts sitting s.sitting_next r.sitting_last s.sat r.sat;
      called = counted CALL FINISH act acts (where_it_is 1 chair) (where_it_is 1 s.chair_next)
          (where_it_is 1 r.chair_last) s.called r.called;
      finished = counted FINISH DEPART act acts (where_it_is 2 chair) (where_it_is 2 s.chair_next)
          (where_it_is 2 r.chair_last) s.finished r.finished;
    }

pub customers : (size : ℕ) (ops : List Op) → LosesNoCustomer size ops
customers size ops =
    let r = run size 0 0 (omega arith) ops in
    let sat = r.sat in
    let called = r.called in
    let finished = r.finished in
    grind (arith, nat_tests)
