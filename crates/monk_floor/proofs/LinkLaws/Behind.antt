-- The seat after another
use Rattle.std.proofs.Common.{◌≡◌, ℕ, zero, suc, ◌<◌, ◌≤◌, ◌+◌, ◌==◌, cond, Some, None, List, [], ◌∷◌, map}
use Rattle.std.proofs.Common.{refl, sym, ap, subst, ◌∙◌, arith, eq-eqb, get_or, add-one, ⊎_elim}
use Rattle.std.{specs.Prelude.slice_get, proofs.lemmas.Bool.cases_eq}
use Rattle.monk_history.specs.{Limits.most_seats, Meaning.Standing.times}
use Rattle.monk_floor.proofs.LinkLaws.{Walks.ends_there, Chains.queue_is, Chains.in_range, Chains.at_most_once}
use Rattle.monk_floor.specs.{declared.chain.Chain.Chain, Queues.queue_at}
use Rattle.monk_floor.specs.Links.{most_queues, walk, seats_of, chain_at, queue_in, EndsWith, IsLinked}

one_of : (x s : ℕ) → x ≡ s → ◌≡◌ {A = ℕ} (cond (x == s) 1 0) 1
one_of x s e = ap (λ b. cond b 1 0) (eq-eqb x s e)

same_some : (x y : ℕ) → Some x ≡ Some y → x ≡ y
same_some x y e = cc

-- no seat comes after the last one
behind_last : (s : ℕ) (xs : List ℕ) (i : ℕ) → EndsWith xs s → times s xs ≤ 1 → slice_get xs i ≡ Some s
    → None ≡ slice_get xs (suc i)
behind_last s [] i e o h = absurd (cc)
behind_last s (x ∷ []) zero e o h = refl
behind_last s (x ∷ []) (suc i) e o h = absurd (cc)
behind_last s (x ∷ y ∷ ys) zero e o h =
    absurd (omega (arith, o, one_of x s (same_some x s h), ends_there y ys s e))
behind_last s (x ∷ y ∷ ys) (suc i) e o h = behind_last s (y ∷ ys) i e (omega (arith, o)) h

-- after any other seat comes the seat to which it is linked
behind_linked : (next : List ℕ) (n f l s i : ℕ) → EndsWith (walk next n f) l → (l ≡ s → ⊥)
    → slice_get (walk next n f) i ≡ Some s
    → Some (get_or next s 0) ≡ slice_get (walk next n f) (suc i)
unfolding walk
behind_linked next zero f l s i e d h = absurd (cc)
behind_linked next (suc zero) f l s zero e d h = absurd (d (sym e ∙ same_some f s h))
behind_linked next (suc zero) f l s (suc i) e d h = absurd (cc)
behind_linked next (suc (suc n)) f l s zero e d h = ap (λ x. Some (get_or next x 0)) (sym (same_some f s h))
behind_linked next (suc (suc n)) f l s (suc i) e d h = behind_linked next (suc n) (get_or next f 0) l s i e d h

linked_there : (next : List ℕ) (n f l s : ℕ) → EndsWith (walk next n f) l → (l ≡ s → ⊥) → 1 ≤ times s (walk next n f)
    → 1 ≤ times (get_or next s 0) (walk next n f)
unfolding walk
linked_there next zero f l s e d h = absurd (omega (arith, h))
linked_there next (suc zero) f l s e d h =
    ⊎_elim (λ q. absurd (d (sym e ∙ q)))
    (λ q. absurd (let none : ◌≡◌ {A = ℕ} (cond (f == s) 1 0) 0 = other f s q in omega (arith, h, none)))
    (cases_eq f s)
  where
    other : (x y : ℕ) → (x ≡ y → ⊥) → ◌≡◌ {A = ℕ} (cond (x == y) 1 0) 0
    other x y k = grind (arith, k)
linked_there next (suc (suc n)) f l s e d h =
    ⊎_elim
    (λ q. let same : get_or next f 0 ≡ get_or next s 0 = ap (λ x. get_or next x 0) q in
    omega (arith, one_of (get_or next f 0) (get_or next s 0) same))
    (λ q. let none : ◌≡◌ {A = ℕ} (cond (f == s) 1 0) 0 = other f s q in
    omega (arith, linked_there next (suc n) (get_or next f 0) l s e d (omega (arith, h, none))))
    (cases_eq f s)
  where
    other : (x y : ℕ) → (x ≡ y → ⊥) → ◌≡◌ {A = ℕ} (cond (x == y) 1 0) 0
    other x y k = grind (arith, k)

module _ (next : List ℕ) (chains : List Chain) (k : IsLinked next chains) (a s : ℕ) (l : a < most_queues)
    (v : List (List ℕ)) (e : map (seats_of next) chains ≡ v) (h : 1 ≤ times s (queue_at v a)) where
  there : 1 ≤ times s (queue_in next chains a)
  there = subst (λ xs. 1 ≤ times s xs) (queue_is next chains v e a) h

  pub seat_below : s < most_seats
  seat_below = in_range k a s l there

  pub nobody_behind : (chain_at chains a).last ≡ s → (i : ℕ) → slice_get (queue_at v a) i ≡ Some s
      → None ≡ slice_get (queue_at v a) (i + 1)
  nobody_behind q i g =
      subst (λ n. None ≡ slice_get (queue_at v a) n) (sym (add-one i))
      (subst (λ xs. None ≡ slice_get xs (suc i)) (sym (queue_is next chains v e a))
      (behind_last s (queue_in next chains a) i (subst (EndsWith (queue_in next chains a)) q (k.last a))
      (at_most_once k a s l)
      (subst (λ xs. slice_get xs i ≡ Some s) (queue_is next chains v e a) g)))

  pub linked_behind : ((chain_at chains a).last ≡ s → ⊥) → (i : ℕ) → slice_get (queue_at v a) i ≡ Some s
      → Some (get_or next s 0) ≡ slice_get (queue_at v a) (i + 1)
  linked_behind d i g =
      subst (λ n. Some (get_or next s 0) ≡ slice_get (queue_at v a) n) (sym (add-one i))
      (subst (λ xs. Some (get_or next s 0) ≡ slice_get xs (suc i)) (sym (queue_is next chains v e a))
      (behind_linked next (chain_at chains a).length (chain_at chains a).first (chain_at chains a).last s i (k.last a) d
      (subst (λ xs. slice_get xs i ≡ Some s) (queue_is next chains v e a) g)))

  pub behind_below : ((chain_at chains a).last ≡ s → ⊥) → get_or next s 0 < most_seats
  behind_below d =
      in_range k a (get_or next s 0) l
      (linked_there next (chain_at chains a).length (chain_at chains a).first (chain_at chains a).last s
      (k.last a) d there)
