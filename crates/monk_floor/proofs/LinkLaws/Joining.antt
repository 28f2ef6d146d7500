-- A seat joins the back of a queue
use Rattle.std.proofs.Common.{◌≡◌, ◌≢◌, ℕ, suc, ◌<◌, ◌≤◌, ◌+◌, ◌-◌, ◌==◌, Bool, true, cond, List, [], ◌∷◌, ◌++◌, map}
use Rattle.std.proofs.Common.{length, refl, sym, ap, subst, ◌∙◌, arith, eq-eqb, eqb-true, append-nil, rules}
use Rattle.std.{specs.Prelude.slice_set, specs.Prelude.nat_lt, proofs.lemmas.Bool.Decides.nat_tests}
use Rattle.monk_history.specs.{Limits.most_seats, Meaning.Standing.times}
use Rattle.monk_floor.proofs.LinkLaws.Walks.{walk-set, walk-push, ends_push}
use Rattle.monk_floor.proofs.LinkLaws.Chains.{queue_is, linked_again, seen_again, apart, last_there, at_most_once}
use Rattle.monk_floor.proofs.LinkLaws.Chains.{last_in_range}
use Rattle.monk_floor.specs.{declared.chain.Chain.Chain, Queues.queue_at}
use Rattle.monk_floor.specs.Links.{most_queues, walk, seats_of, chain_at, queue_in, places, EndsWith, IsLinked}

pub some_more : (n : ℕ) → (n ≡ 0 → ⊥) → n ≡ suc (n - 1)
some_more n h = omega arith

pub times_push : (x : ℕ) (xs : List ℕ) (s : ℕ) → times x (xs ++ s ∷ []) ≡ times x xs + cond (s == x) 1 0
times_push x [] s = omega arith
times_push x (y ∷ ys) s = omega (arith, times_push x ys s)

joins_once : (b : Bool) (s x n : ℕ) → (b ≡ true → s ≡ x) → (s ≡ x → n ≡ 0) → s < most_seats
    → n ≤ cond (nat_lt x most_seats) 1 0
    → n + cond b 1 0 ≤ cond (nat_lt x most_seats) 1 0
joins_once b s x n h none l o = grind (arith, nat_tests)

when : (b : Bool) (xs : List ℕ) (s : ℕ) → (b ≡ true → ⊥) → xs ++ cond b (s ∷ []) [] ≡ xs
when b xs s h = grind (arith, nat_tests, append-nil)

module _ {next : List ℕ} {chains : List Chain} (k : IsLinked next chains) (a s : ℕ) (l : a < most_queues) where
  -- one more seat in a queue
  joined_linked : (others : List ℕ) (new : Chain) → seats_of others new ≡ queue_in next chains a ++ s ∷ []
      → new.last ≡ s
      → ((c : ℕ) → a ≢ c → seats_of others (chain_at chains c) ≡ queue_in next chains c)
      → s < most_seats → places s (queue_in next chains) ≡ 0 → IsLinked others (slice_set chains a new)
  joined_linked others new is last same low none =
      linked_again k others a new l same
      (subst (EndsWith (seats_of others new)) (sym last)
      (subst (λ xs. EndsWith xs s) (sym is) (ends_push (queue_in next chains a) s)))
      (λ x. let more : times x (seats_of others new) ≡ times x (queue_in next chains a) + cond (s == x) 1 0 =
      ap (times x) is ∙ times_push x (queue_in next chains a) s in
      let once = joins_once (s == x) s x (places x (queue_in next chains)) (eqb-true s x)
      (λ e. ap (λ y. places y (queue_in next chains)) (sym e) ∙ none) low (k.once x) in
      omega (arith, more, once))

  joined_seen : (v : List (List ℕ)) → map (seats_of next) chains ≡ v → (others : List ℕ) (new : Chain)
      → seats_of others new ≡ queue_in next chains a ++ s ∷ []
      → ((c : ℕ) → a ≢ c → seats_of others (chain_at chains c) ≡ queue_in next chains c)
      → (c : ℕ)
      → queue_at (map (seats_of others) (slice_set chains a new)) c ≡ queue_at v c ++ cond (a == c) (s ∷ []) []
  joined_seen v e others new is same =
      seen_again k v e others a new l same (λ c. queue_at v c ++ cond (a == c) (s ∷ []) [])
      (ap (λ b. queue_at v a ++ cond b (s ∷ []) []) (eq-eqb a a refl)
      ∙ (ap (λ xs. xs ++ s ∷ []) (queue_is next chains v e a) ∙ sym is))
      (λ c d. when (a == c) (queue_at v c) s (λ b. d (eqb-true a c b)))

  first_is : (chain_at chains a).length ≡ 0 → walk next 1 s ≡ queue_in next chains a ++ s ∷ []
  unfolding walk
  first_is e = ap (λ n. walk next n (chain_at chains a).first ++ s ∷ []) (sym e)

  -- it is the first one
  pub first_linked : (chain_at chains a).length ≡ 0 → s < most_seats → places s (queue_in next chains) ≡ 0
      → IsLinked next (slice_set chains a (record { first = s; last = s; length = 1 }))
  first_linked e = joined_linked next (record { first = s; last = s; length = 1 }) (first_is e) refl (λ c d. refl)

  pub first_seen : (v : List (List ℕ)) → map (seats_of next) chains ≡ v → (chain_at chains a).length ≡ 0
      → (c : ℕ)
      → queue_at (map (seats_of next) (slice_set chains a (record { first = s; last = s; length = 1 }))) c
      ≡ queue_at v c
      ++ cond (a == c) (s ∷ []) []
  first_seen v e z = joined_seen v e next (record { first = s; last = s; length = 1 }) (first_is z) (λ c d. refl)

  -- or it comes after others
  behind_is : (n : ℕ) → (chain_at chains a).length ≡ suc n → length next ≡ most_seats
      → walk (slice_set next (chain_at chains a).last s) ((chain_at chains a).length + 1) (chain_at chains a).first
      ≡ queue_in next chains a ++ s ∷ []
  behind_is n e b =
      ap (λ x. walk (slice_set next (chain_at chains a).last s) x (chain_at chains a).first)
      (let more : (chain_at chains a).length + 1 ≡ suc (suc n) = omega (arith, e) in more)
      ∙ (walk-push next n (chain_at chains a).first (chain_at chains a).last s
      (subst (λ x. EndsWith (walk next x (chain_at chains a).first) (chain_at chains a).last) e (k.last a))
      (subst (λ x. times (chain_at chains a).last (walk next x (chain_at chains a).first) ≤ 1) e
      (at_most_once k a (chain_at chains a).last l))
      (let low = last_in_range k a n l e in omega (arith, low, b))
      ∙ ap (λ x. walk next x (chain_at chains a).first ++ s ∷ []) (sym e))

  others_stay : (n : ℕ) → (chain_at chains a).length ≡ suc n → (c : ℕ) → a ≢ c
      → seats_of (slice_set next (chain_at chains a).last s) (chain_at chains c) ≡ queue_in next chains c
  others_stay n e c d = search (rules, walk-set, apart, last_there)

  abbrev longer : Chain
  longer = record { first = (chain_at chains a).first; last = s; length = (chain_at chains a).length + 1 }

  pub behind_linked : ((chain_at chains a).length ≡ 0 → ⊥) → length next ≡ most_seats → s < most_seats
      → places s (queue_in next chains) ≡ 0
      → IsLinked (slice_set next (chain_at chains a).last s) (slice_set chains a longer)
  behind_linked e b =
      let e = some_more (chain_at chains a).length e in
      joined_linked (slice_set next (chain_at chains a).last s) longer (behind_is _ e b) refl (others_stay _ e)

  pub behind_seen : (v : List (List ℕ)) → map (seats_of next) chains ≡ v → ((chain_at chains a).length ≡ 0 → ⊥)
      → length next ≡ most_seats → (c : ℕ)
      → queue_at (map (seats_of (slice_set next (chain_at chains a).last s)) (slice_set chains a longer)) c
      ≡ queue_at v c ++ cond (a == c) (s ∷ []) []
  behind_seen v w e b =
      let e = some_more (chain_at chains a).length e in
      joined_seen v w (slice_set next (chain_at chains a).last s) longer (behind_is _ e b) (others_stay _ e)

  pub last_is_seat : ((chain_at chains a).length ≡ 0 → ⊥) → (chain_at chains a).last < most_seats
  last_is_seat e = last_in_range k a _ l (some_more (chain_at chains a).length e)

-- a seat that is in none of the shown queues is in none of the linked ones
pub seen_none : (next : List ℕ) (chains : List Chain) (v : List (List ℕ)) → map (seats_of next) chains ≡ v → (s : ℕ)
    → places s (queue_at v) ≡ 0 → places s (queue_in next chains) ≡ 0
seen_none next chains v e s h = subst (λ q. places s q ≡ 0) (λ i c. queue_is next chains v e c i) h
