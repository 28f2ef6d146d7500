-- A seat is looked for in a queue, and taken out of it
use Rattle.std.proofs.Common.{◌≡◌, ◌≢◌, ℕ, ◌<◌, ◌≤◌, ◌-◌, ◌==◌, Bool, true, false, cond, Option, Some, None, List, [], ◌∷◌, map}
use Rattle.std.proofs.Common.{length, drop, refl, sym, ap, subst, ◌∙◌, arith, eq-eqb, eqb-true, get_or, rules}
use Rattle.std.specs.{Prelude.slice_set, Prelude.slice_get, Prelude.nat_eq, Prelude.IfSome, Option.option_eq}
use Rattle.monk_history.specs.{Limits.most_seats, Meaning.Standing.times}
use Rattle.monk_floor.proofs.LinkLaws.{Walks.walk-set, Chains.queue_is, Chains.linked_again, Chains.seen_again}
use Rattle.monk_floor.proofs.LinkLaws.{Chains.apart, Chains.at_most_once, Chains.in_range, Chains.times_le}
use Rattle.monk_floor.proofs.LinkLaws.Middles.{skips, times_none, times_without, before_there, seat_there, absent}
use Rattle.monk_floor.proofs.LinkLaws.Middles.{walk-unlink, ends_without}
use Rattle.monk_floor.specs.{declared.chain.Chain.Chain, Queues.queue_at}
use Rattle.monk_floor.specs.Links.{most_queues, walk, seats_of, chain_at, queue_in, places, EndsWith, without}
use Rattle.monk_floor.specs.Links.{seat_before, IsLinked}
use Rattle.std.proofs.lemmas.Bool.Decides.{nat_tests}

when : (b : Bool) (xs ys : List ℕ) → (b ≡ true → ⊥) → cond b xs ys ≡ ys
when b xs ys h = grind (arith, nat_tests)

nobody_before : (next : List ℕ) (n f s b : ℕ) → n ≡ 0 → seat_before s (walk next n f) ≡ Some b → ⊥
unfolding walk
nobody_before next n f s b e h = cc

module _ (next : List ℕ) (chains : List Chain) (k : IsLinked next chains) (a s b : ℕ) (l : a < most_queues)
    (v : List (List ℕ)) (e : map (seats_of next) chains ≡ v) (h : seat_before s (queue_at v a) ≡ Some b) where
  found : seat_before s (queue_in next chains a) ≡ Some b
  found = ap (seat_before s) (sym (queue_is next chains v e a)) ∙ h

  pub seat_in_range : s < most_seats
  seat_in_range = in_range k a s l (seat_there s b (queue_in next chains a) found)

  pub before_in_range : b < most_seats
  before_in_range = in_range k a b l (before_there s b (queue_in next chains a) found)

  pub not_empty : 1 ≤ (chain_at chains a).length
  not_empty = grind (arith, nat_tests, nobody_before, found)

  abbrev links : List ℕ
  links = slice_set next b (get_or next s 0)

  abbrev chain : ℕ → Chain
  chain last = record { first = (chain_at chains a).first; last = last; length = (chain_at chains a).length - 1 }

  unlinked : length next ≡ most_seats → (last : ℕ) → seats_of links (chain last) ≡ without s (queue_in next chains a)
  unlinked c last = grind (arith, nat_tests, not_empty, before_in_range, walk-unlink, found, at_most_once)

  others_stay : (c : ℕ) → a ≢ c → seats_of links (chain_at chains c) ≡ queue_in next chains c
  others_stay c d = search (rules, walk-set, apart, before_there, found)

  pub unlinked_linked : length next ≡ most_seats → (last : ℕ)
      → last ≡ cond ((chain_at chains a).last == s) b (chain_at chains a).last
      → IsLinked links (slice_set chains a (chain last))
  unlinked_linked c last is =
      linked_again k links a (chain last) l others_stay
      (subst (λ xs. EndsWith xs last) (sym (unlinked c last))
      (subst (EndsWith (without s (queue_in next chains a))) (sym is)
      (ends_without (queue_in next chains a) s b (chain_at chains a).last (k.last a) found (at_most_once k a s l))))
      (λ x. let less : times x (seats_of links (chain last)) ≤ times x (queue_in next chains a) =
      subst (λ xs. times x xs ≤ times x (queue_in next chains a)) (sym (unlinked c last))
      (times_without s x (queue_in next chains a)) in
      omega (arith, less, k.once x))

  seen : length next ≡ most_seats → (last c : ℕ)
      → queue_at (map (seats_of links) (slice_set chains a (chain last))) c
      ≡ cond (a == c) (without s (queue_at v c)) (queue_at v c)
  seen x last =
      seen_again k v e links a (chain last) l others_stay (λ c. cond (a == c) (without s (queue_at v c)) (queue_at v c))
      (ap (λ z. cond z (without s (queue_at v a)) (queue_at v a)) (eq-eqb a a refl)
      ∙ (ap (without s) (queue_is next chains v e a) ∙ sym (unlinked x last)))
      (λ c d. when (a == c) (without s (queue_at v c)) (queue_at v c) (λ z. d (eqb-true a c z)))

  pub unlinked_here : length next ≡ most_seats → (last : ℕ)
      → queue_at (map (seats_of links) (slice_set chains a (chain last))) a ≡ without s (queue_at v a)
  unlinked_here x last = seen x last a ∙ ap (λ z. cond z (without s (queue_at v a)) (queue_at v a)) (eq-eqb a a refl)

  pub unlinked_others : length next ≡ most_seats → (last c : ℕ) → a ≢ c
      → queue_at (map (seats_of links) (slice_set chains a (chain last))) c ≡ queue_at v c
  unlinked_others x last c d = grind (arith, nat_tests, seen, when, eqb-true)

-- if the seat is the front
front_taken : (s : ℕ) (xs ys : List ℕ) → true ≡ option_eq nat_eq (slice_get xs 0) (Some s) → ys ≡ drop 1 xs
    → times s ys ≡ 0
    → ys ≡ without s xs
front_taken s xs ys h d n = grind (arith, nat_tests, eqb-true, skips, times_none)

some_is : (r : Option ℕ) (s : ℕ) (P : ℕ → Type 0) → true ≡ option_eq nat_eq r (Some s) → IfSome r P → P s
some_is None s P h p = absurd (cc)
some_is (Some x) s P h p = subst P (eqb-true x s (sym h)) p

pub removed_front : (a s : ℕ) (v w : List (List ℕ)) (r : Option ℕ) → a < most_queues → r ≡ slice_get (queue_at v a) 0
    → true ≡ option_eq nat_eq r (Some s) → ((c : ℕ) → queue_at w c ≡ drop (cond (a == c) 1 0) (queue_at v c))
    → IfSome r (λ x. places x (queue_at w) ≡ 0) → queue_at w a ≡ without s (queue_at v a)
removed_front a s v w r l e h m p = grind (arith, nat_tests, some_is, times_le, front_taken, eq-eqb)

pub others_stay_here : (a : ℕ) (v w : List (List ℕ))
    → ((c : ℕ) → queue_at w c ≡ drop (cond (a == c) 1 0) (queue_at v c))
    → (c : ℕ) → a ≢ c → queue_at w c ≡ queue_at v c
others_stay_here a v w m c d = grind (arith, nat_tests)

-- if the seat is not there
pub not_there : (s : ℕ) (xs : List ℕ) (r : Option ℕ) → r ≡ slice_get xs 0 → false ≡ option_eq nat_eq r (Some s)
    → seat_before s xs ≡ None → xs ≡ without s xs
not_there s xs r e h n = nowhere s xs (h ∙ ap (λ o. option_eq nat_eq o (Some s)) e) n
  where
    nowhere : (s : ℕ) (xs : List ℕ) → false ≡ option_eq nat_eq (slice_get xs 0) (Some s) → seat_before s xs ≡ None
        → xs ≡ without s xs
    nowhere s [] h n = refl
    nowhere s (x ∷ xs) h n = sym (absent s x xs (λ e. absurd (let same : x == s ≡ true = eq-eqb x s e in cc)) n)
