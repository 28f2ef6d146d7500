-- The front of a queue is read, and taken
use Rattle.std.proofs.Common.{◌≡◌, ℕ, ◌<◌, ◌≤◌, ◌+◌, ◌-◌, ◌==◌, Bool, true, cond, Some, None, List, [], ◌∷◌, map}
use Rattle.std.proofs.Common.{drop, refl, sym, ap, subst, ◌∙◌, arith, eq-eqb, eqb-true, get_or, rules}
use Rattle.std.specs.Prelude.{slice_set, slice_get, nat_eq}
use Rattle.monk_history.specs.{Limits.most_seats, Meaning.Signallers.is_empty, Meaning.Standing.times}
use Rattle.monk_floor.proofs.LinkLaws.Walks.{ends_drop}
use Rattle.monk_floor.proofs.LinkLaws.Chains.{queue_is, linked_again, seen_again, in_range, places_one, cond_le}
use Rattle.monk_floor.specs.{declared.chain.Chain.Chain, Queues.queue_at}
use Rattle.monk_floor.specs.Links.{most_queues, walk, seats_of, chain_at, queue_in, places, EndsWith, IsLinked}
use Rattle.std.proofs.lemmas.Bool.Decides.{nat_tests}

times_drop : (s : ℕ) (xs : List ℕ) → times s (drop 1 xs) ≤ times s xs
times_drop s xs = grind (arith, nat_tests)

drop_none : (b : Bool) (xs : List ℕ) → (b ≡ true → xs ≡ []) → xs ≡ drop (cond b 1 0) xs
drop_none b xs h = grind (arith, nat_tests)

drop_when : (b : Bool) (xs : List ℕ) → (b ≡ true → ⊥) → drop (cond b 1 0) xs ≡ xs
drop_when b xs h = grind (arith, nat_tests)

pub none_here : (next : List ℕ) (n f : ℕ) → n ≡ 0 → walk next n f ≡ []
unfolding walk
none_here next n f e = cc

pub some_here : (next : List ℕ) (n f : ℕ) → (n ≡ 0 → ⊥) → walk next n f ≡ f ∷ walk next (n - 1) (get_or next f 0)
unfolding walk
some_here next n f e = grind (arith, nat_tests)

times_front : (x : ℕ) (xs : List ℕ) → 1 ≤ times x (x ∷ xs)
times_front x xs = omega (arith, ap {B = ℕ} (λ b. cond b 1 0) (eq-eqb x x refl))

times_first : (x : ℕ) (xs ys : List ℕ) {zs : List ℕ} → xs ≡ x ∷ zs → ys ≡ drop 1 xs → times x xs ≡ 1 + times x ys
times_first x xs ys h h' = grind (arith, nat_tests)

module _ (next : List ℕ) (chains : List Chain) (a : ℕ) where
  -- the queue has nobody in it
  pub none_seen : (v : List (List ℕ)) → map (seats_of next) chains ≡ v → (chain_at chains a).length ≡ 0
      → queue_at v a ≡ []
  none_seen v e z = queue_is next chains v e a ∙ none_here next (chain_at chains a).length (chain_at chains a).first z

  pub some_seen : (v : List (List ℕ)) → map (seats_of next) chains ≡ v → ((chain_at chains a).length ≡ 0 → ⊥)
      → queue_at v a ≡ (chain_at chains a).first ∷ walk next ((chain_at chains a).length - 1)
      (get_or next (chain_at chains a).first 0)
  some_seen v e z = queue_is next chains v e a ∙ some_here next (chain_at chains a).length (chain_at chains a).first z

  pub no_front : (v : List (List ℕ)) → map (seats_of next) chains ≡ v → (chain_at chains a).length ≡ 0
      → None ≡ slice_get (queue_at v a) 0
  no_front v e z = sym (ap (λ xs. slice_get xs 0) (none_seen v e z))

  pub front_is : (v : List (List ℕ)) → map (seats_of next) chains ≡ v → ((chain_at chains a).length ≡ 0 → ⊥)
      → Some (chain_at chains a).first ≡ slice_get (queue_at v a) 0
  front_is v e z = sym (ap (λ xs. slice_get xs 0) (some_seen v e z))

  pub front_in_range : IsLinked next chains → a < most_queues → ((chain_at chains a).length ≡ 0 → ⊥)
      → (chain_at chains a).first < most_seats
  front_in_range k l z = search (rules, in_range, some_here, times_front)

  pub taken_none : (v : List (List ℕ)) → map (seats_of next) chains ≡ v → (chain_at chains a).length ≡ 0
      → (c : ℕ) → queue_at v c ≡ drop (cond (a == c) 1 0) (queue_at v c)
  taken_none v e z c = grind (arith, nat_tests, drop_none, eqb-true, none_seen)

  -- the front is taken: the queue begins at the next one
  abbrev shorter : Chain
  shorter = record {
    first = get_or next (chain_at chains a).first 0;
    last = (chain_at chains a).last;
    length = (chain_at chains a).length - 1;
  }

  shorter_is : ((chain_at chains a).length ≡ 0 → ⊥) → seats_of next shorter ≡ drop 1 (queue_in next chains a)
  shorter_is z = sym (ap (drop 1) (some_here next (chain_at chains a).length (chain_at chains a).first z))

  pub taken_linked : IsLinked next chains → a < most_queues → ((chain_at chains a).length ≡ 0 → ⊥)
      → IsLinked next (slice_set chains a shorter)
  taken_linked k l z =
      linked_again k next a shorter l (λ c d. refl)
      (subst (λ xs. EndsWith xs (chain_at chains a).last) (sym (shorter_is z))
      (ends_drop (queue_in next chains a) _ (k.last a)))
      (λ s. let less : times s (seats_of next shorter) ≤ times s (queue_in next chains a) =
      subst (λ xs. times s xs ≤ times s (queue_in next chains a)) (sym (shorter_is z))
      (times_drop s (queue_in next chains a)) in
      omega (arith, less, k.once s))

  pub taken_seen : IsLinked next chains → a < most_queues → (v : List (List ℕ)) → map (seats_of next) chains ≡ v
      → ((chain_at chains a).length ≡ 0 → ⊥)
      → (c : ℕ)
      → queue_at (map (seats_of next) (slice_set chains a shorter)) c ≡ drop (cond (a == c) 1 0) (queue_at v c)
  taken_seen k l v e z =
      seen_again k v e next a shorter l (λ c d. refl) (λ c. drop (cond (a == c) 1 0) (queue_at v c))
      (ap (λ b. drop (cond b 1 0) (queue_at v a)) (eq-eqb a a refl)
      ∙ (ap (drop 1) (queue_is next chains v e a) ∙ sym (shorter_is z)))
      (λ c d. drop_when (a == c) (queue_at v c) (λ b. d (eqb-true a c b)))

  pub taken_apart : IsLinked next chains → a < most_queues → (v : List (List ℕ)) → map (seats_of next) chains ≡ v
      → ((chain_at chains a).length ≡ 0 → ⊥)
      → places (chain_at chains a).first (queue_at (map (seats_of next) (slice_set chains a shorter))) ≡ 0
  taken_apart k l v e z =
      let s = (chain_at chains a).first in
      let new = queue_at (map (seats_of next) (slice_set chains a shorter)) in
      let one = places_one a s (queue_at v) new l
      (λ c d. taken_seen k l v e z c ∙ drop_when (a == c) (queue_at v c) (λ b. d (eqb-true a c b))) in
      let old : times s (queue_at v a) ≡ 1 + times s (new a) =
      let here : new a ≡ drop 1 (queue_at v a) = taken_seen k l v e z a
      ∙ ap (λ b. drop (cond b 1 0) (queue_at v a)) (eq-eqb a a refl) in
      times_first s (queue_at v a) (new a) (some_seen v e z) here in
      let few : places s (queue_in next chains) ≤ 1 = grind (arith, nat_tests, cond_le) in
      let once : places s (queue_at v) ≤ 1 = grind (arith, nat_tests, queue_is) in
      omega (arith, one, old, once)

-- whether there is a front, and which seat it is
pub nobody : (next : List ℕ) (n f : ℕ) → nat_eq n 0 ≡ is_empty (walk next n f)
unfolding walk
nobody next n f = grind (arith, nat_tests)
