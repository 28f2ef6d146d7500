-- All seats of a queue go to the back of another, in order
use Rattle.std.proofs.Common.{◌≡◌, ◌≢◌, ℕ, zero, suc, ◌<◌, ◌≤◌, ◌+◌, ◌-◌, ◌==◌, Bool, true, cond, List, [], ◌∷◌, ◌++◌, map}
use Rattle.std.proofs.Common.{length, refl, sym, ap, subst, ◌∙◌, arith, eq-eqb, eqb-true, append-nil, rules}
use Rattle.std.proofs.{Common.get_or, Common.get_or-set_same, Common.get_or-set_other, lemmas.Bool.Decides.nat_tests}
use Rattle.std.specs.Prelude.{slice_set, nat_lt}
use Rattle.monk_history.specs.{Limits.most_seats, Meaning.Standing.times}
use Rattle.monk_floor.proofs.LinkLaws.{Walks.walk-set, Walks.behind, Walks.ends_there, Joining.some_more, Empty.none}
use Rattle.monk_floor.proofs.LinkLaws.Taking.{none_here, some_here, none_seen}
use Rattle.monk_floor.proofs.LinkLaws.Chains.{queue_is, linked_again, seen_again, apart, places_one, last_there}
use Rattle.monk_floor.proofs.LinkLaws.Chains.{at_most_once, last_in_range}
use Rattle.monk_floor.specs.{declared.chain.Chain.Chain, Queues.queue_at}
use Rattle.monk_floor.specs.Links.{most_queues, walk, seats_of, empty_chain, chain_at, queue_in, places, EndsWith}
use Rattle.monk_floor.specs.Links.{IsLinked}

-- two lists, one after the other
pub times_both : (s : ℕ) (xs ys : List ℕ) → times s (xs ++ ys) ≡ times s xs + times s ys
times_both s [] ys = omega arith
times_both s (x ∷ xs) ys = omega (arith, times_both s xs ys)

ends_both : (xs : List ℕ) (y : ℕ) (ys : List ℕ) (l : ℕ) → EndsWith (y ∷ ys) l → EndsWith (xs ++ y ∷ ys) l
ends_both [] y ys l e = e
ends_both (x ∷ []) y ys l e = e
ends_both (x ∷ z ∷ zs) y ys l e = ends_both (z ∷ zs) y ys l e

-- the last seat of a walk is linked to the first of another
walk-join : (next : List ℕ) (n m f g l : ℕ) → EndsWith (walk next (suc n) f) l → times l (walk next (suc n) f) ≤ 1
    → times l (walk next m g) ≡ 0 → l < length next → (all : ℕ) → all ≡ suc n + m
    → walk (slice_set next l g) all f ≡ walk next (suc n) f ++ walk next m g
unfolding walk
walk-join next zero m f g l e o z b all h =
    ap (λ x. walk (slice_set next l g) x f) (let more : all ≡ suc m = omega (arith, h) in more)
    ∙ ap (λ ys. f ∷ ys)
    (ap (walk (slice_set next l g) m) (ap (λ x. get_or (slice_set next l g) x 0) e ∙ get_or-set_same next l g 0 b)
    ∙ walk-set next m g l g z)
walk-join next (suc n) m f g l e o z b all h =
    let there : 1 ≤ times l (walk next (suc n) (get_or next f 0)) = ends_there (get_or next f 0) _ l e in
    ap (λ x. walk (slice_set next l g) x f) (let more : all ≡ suc (all - 1) = omega (arith, h) in more)
    ∙ ap (λ ys. f ∷ ys)
    (ap (walk (slice_set next l g) (all - 1)) (get_or-set_other next l f g 0 (behind f l _ o there))
    ∙ walk-join next n m (get_or next f 0) g l e (omega (arith, o)) z b (all - 1) (omega (arith, h)))

when_not : (b : Bool) (xs ys : List ℕ) → (b ≡ true → ⊥) → cond b xs ys ≡ ys
when_not b xs ys h = grind (arith, nat_tests)

none_passed : (x y : Bool) (xs ys : List ℕ) → ys ≡ [] → (x ≡ true → xs ≡ []) → xs ≡ cond x [] xs ++ cond y ys []
none_passed x y xs ys h f = grind (arith, nat_tests, append-nil)

module _ {next : List ℕ} {chains : List Chain} (k : IsLinked next chains) (a b : ℕ) (l : a < most_queues)
    (m : b < most_queues)
    (d : a ≢ b) where
  -- first the one queue is empty
  abbrev emptied : List Chain
  emptied = slice_set chains a empty_chain

  emptied_here : queue_in next emptied a ≡ []
  emptied_here = grind (arith, nat_tests, get_or-set_same, none)

  emptied_other : (c : ℕ) → a ≢ c → queue_in next emptied c ≡ queue_in next chains c
  emptied_other c x = ap (seats_of next) (get_or-set_other chains a c empty_chain empty_chain (λ e. x (sym e)))

  emptied_linked : IsLinked next emptied
  emptied_linked =
      linked_again k next a empty_chain l (λ c x. refl) (subst (λ xs. EndsWith xs 0) (sym (none next)) tt)
      (λ s. let no : times s (seats_of next empty_chain) ≡ 0 = ap (times s) (none next) in omega (arith, no, k.once s))

  emptied_seen : (v : List (List ℕ)) → map (seats_of next) chains ≡ v
      → (c : ℕ) → queue_at (map (seats_of next) emptied) c ≡ cond (a == c) [] (queue_at v c)
  emptied_seen v e =
      seen_again k v e next a empty_chain l (λ c x. refl) (λ c. cond (a == c) [] (queue_at v c))
      (ap (λ z. cond z [] (queue_at v a)) (eq-eqb a a refl) ∙ sym (none next))
      (λ c x. when_not (a == c) [] (queue_at v c) (λ z. x (eqb-true a c z)))

  -- the seats of that queue are now in no queue
  once : (s : ℕ) → places s (queue_in next emptied) + times s (queue_in next chains a) ≤ cond (nat_lt s most_seats) 1 0
  once s =
      let one = places_one a s (queue_in next chains) (queue_in next emptied) l emptied_other in
      let no : times s (queue_in next emptied a) ≡ 0 = ap (times s) emptied_here in
      omega (arith, one, no, k.once s)

  -- then they come after those of the other
  passed_linked : (others : List ℕ) (new : Chain)
      → seats_of others new ≡ queue_in next chains b ++ queue_in next chains a
      → EndsWith (seats_of others new) new.last
      → ((c : ℕ) → b ≢ c → seats_of others (chain_at emptied c) ≡ queue_in next emptied c)
      → IsLinked others (slice_set emptied b new)
  passed_linked others new is last same =
      linked_again emptied_linked others b new m same last
      (λ s. let more : times s (seats_of others new)
      ≡ times s (queue_in next emptied b) + times s (queue_in next chains a) =
      ap (times s) is ∙ (times_both s (queue_in next chains b) (queue_in next chains a)
      ∙ ap (λ xs. times s xs + times s (queue_in next chains a)) (sym (emptied_other b d))) in
      omega (arith, more, once s))

  passed_seen : (v : List (List ℕ)) → map (seats_of next) chains ≡ v → (others : List ℕ) (new : Chain)
      → seats_of others new ≡ queue_in next chains b ++ queue_in next chains a
      → ((c : ℕ) → b ≢ c → seats_of others (chain_at emptied c) ≡ queue_in next emptied c)
      → (c : ℕ) → queue_at (map (seats_of others) (slice_set emptied b new)) c ≡ cond (a == c) [] (queue_at v c)
      ++ cond (b == c) (queue_at v a) []
  passed_seen v e others new is same =
      seen_again emptied_linked _ refl others b new m same
      (λ c. cond (a == c) [] (queue_at v c) ++ cond (b == c) (queue_at v a) [])
      ((λ i. when_not (a == b) [] (queue_at v b) (λ z. d (eqb-true a b z)) i
      ++ cond (eq-eqb b b refl i) (queue_at v a) [])
      ∙ ((λ i. queue_is next chains v e b i ++ queue_is next chains v e a i) ∙ sym is))
      (λ c x. ap (λ ys. cond (a == c) [] (queue_at v c) ++ ys)
      (when_not (b == c) (queue_at v a) [] (λ z. x (eqb-true b c z)))
      ∙ (append-nil (cond (a == c) [] (queue_at v c)) ∙ sym (emptied_seen v e c)))

  -- nobody was there to pass
  pub nobody_passed : (v : List (List ℕ)) → map (seats_of next) chains ≡ v → (chain_at chains a).length ≡ 0
      → (c : ℕ) → queue_at v c ≡ cond (a == c) [] (queue_at v c) ++ cond (b == c) (queue_at v a) []
  nobody_passed v e z c = grind (arith, nat_tests, none_passed, none_seen, eqb-true)

  -- the other queue is empty
  alone_is : (chain_at chains b).length ≡ 0 → queue_in next chains a ≡ queue_in next chains b ++ queue_in next chains a
  alone_is z = grind (arith, nat_tests, none_here)

  pub alone_linked : (chain_at chains b).length ≡ 0 → IsLinked next (slice_set emptied b (chain_at chains a))
  alone_linked z = passed_linked next (chain_at chains a) (alone_is z) (k.last a) (λ c x. refl)

  pub alone_seen : (v : List (List ℕ)) → map (seats_of next) chains ≡ v → (chain_at chains b).length ≡ 0
      → (c : ℕ)
      → queue_at (map (seats_of next) (slice_set emptied b (chain_at chains a))) c ≡ cond (a == c) [] (queue_at v c)
      ++ cond (b == c) (queue_at v a) []
  alone_seen v e z = passed_seen v e next (chain_at chains a) (alone_is z) (λ c x. refl)

  -- or it has seats
  abbrev links : List ℕ
  links = slice_set next (chain_at chains b).last (chain_at chains a).first

  abbrev both : Chain
  both = record {
    first = (chain_at chains b).first;
    last = (chain_at chains a).last;
    length = (chain_at chains b).length + (chain_at chains a).length;
  }

  both_is : (n : ℕ) → (chain_at chains b).length ≡ suc n → length next ≡ most_seats
      → seats_of links both ≡ queue_in next chains b ++ queue_in next chains a
  both_is n e c =
      let f = (chain_at chains b).first in
      let last = (chain_at chains b).last in
      walk-join next n (chain_at chains a).length f (chain_at chains a).first last
      (subst (λ x. EndsWith (walk next x f) last) e (k.last b))
      (subst (λ x. times last (walk next x f) ≤ 1) e (at_most_once k b last m))
      (apart k b a last m (λ x. d (sym x)) (last_there k b n e))
      (let low = last_in_range k b n m e in omega (arith, low, c))
      ((chain_at chains b).length + (chain_at chains a).length) (omega (arith, e))
      ∙ ap (λ x. walk next x f ++ queue_in next chains a) (sym e)

  both_ends : (n : ℕ) → (chain_at chains b).length ≡ suc n → length next ≡ most_seats
      → ((chain_at chains a).length ≡ 0 → ⊥)
      → EndsWith (seats_of links both) (chain_at chains a).last
  both_ends n e c z =
      let some = some_here next (chain_at chains a).length (chain_at chains a).first z in
      subst (λ xs. EndsWith xs (chain_at chains a).last) (sym (both_is n e c))
      (subst (λ ys. EndsWith (queue_in next chains b ++ ys) (chain_at chains a).last) (sym some)
      (ends_both (queue_in next chains b) _ _ (chain_at chains a).last
      (subst (λ ys. EndsWith ys (chain_at chains a).last) some (k.last a))))

  others_stay : (n : ℕ) → (chain_at chains b).length ≡ suc n → (c : ℕ) → b ≢ c
      → seats_of links (chain_at emptied c) ≡ queue_in next emptied c
  others_stay n e c x = search (rules, walk-set, apart, emptied_linked, emptied_other, last_there)

  pub both_linked : ((chain_at chains b).length ≡ 0 → ⊥) → length next ≡ most_seats
      → ((chain_at chains a).length ≡ 0 → ⊥)
      → IsLinked links (slice_set emptied b both)
  both_linked y c z =
      let e = some_more (chain_at chains b).length y in
      passed_linked links both (both_is _ e c) (both_ends _ e c z) (others_stay _ e)

  pub both_seen : (v : List (List ℕ)) → map (seats_of next) chains ≡ v → ((chain_at chains b).length ≡ 0 → ⊥)
      → length next ≡ most_seats
      → (c : ℕ) → queue_at (map (seats_of links) (slice_set emptied b both)) c ≡ cond (a == c) [] (queue_at v c)
      ++ cond (b == c) (queue_at v a) []
  both_seen v w y c =
      let e = some_more (chain_at chains b).length y in
      passed_seen v w links both (both_is _ e c) (others_stay _ e)
