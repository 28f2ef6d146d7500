-- The seat just before another is looked for along the links
use Rattle.std.proofs.Common.{◌≡◌, ℕ, suc, ◌<◌, ◌≤◌, ◌+◌, ◌-◌, cond, Some, None, List, map}
use Rattle.std.proofs.Common.{refl, sym, ap, subst, ◌∙◌, arith, eq-eqb, get_or}
use Rattle.monk_history.specs.{Limits.most_seats, Meaning.Standing.times}
use Rattle.monk_floor.proofs.LinkLaws.{Chains.queue_is, Chains.in_range}
use Rattle.monk_floor.specs.{declared.chain.Chain.Chain, Queues.queue_at}
use Rattle.monk_floor.specs.Links.{most_queues, walk, seats_of, chain_at, queue_in, seat_before, IsLinked}
use Rattle.std.proofs.lemmas.Bool.Decides.{nat_tests}

-- n seats of a queue are left from b on. The one before s is found among them, or not at all
pub record IsLeft (next : List ℕ) (s : ℕ) (all : List ℕ) (n b : ℕ) : Type 0 where
  pub same : seat_before s (walk next n b) ≡ seat_before s all
  pub within : (x : ℕ) → times x (walk next n b) ≤ times x all

-- b is seat number i from the front of a queue of `length` seats
pub record IsSought (next : List ℕ) (s : ℕ) (all : List ℕ) (length i b : ℕ) : Type 0 where
  pub bound : i ≤ length + 1
  pub left : (n : ℕ) → n + i ≡ length + 1 → IsLeft next s all n b

front_times : (next : List ℕ) (n b : ℕ) → 1 ≤ times b (walk next (suc n) b)
unfolding walk
front_times next n b = omega (arith, ap {B = ℕ} (λ z. cond z 1 0) (eq-eqb b b refl))

one_further : (next : List ℕ) (s : ℕ) (all : List ℕ) (n b : ℕ) → IsLeft next s all (suc (suc n)) b
    → (get_or next b 0 ≡ s → ⊥)
    → IsLeft next s all (suc n) (get_or next b 0)
unfolding walk
one_further next s all n b k d = grind (arith, nat_tests)

found_here : (next : List ℕ) (s : ℕ) (n b : ℕ) → get_or next b 0 ≡ s
    → Some b ≡ seat_before s (walk next (suc (suc n)) b)
unfolding walk
found_here next s n b e = grind (arith, nat_tests)

found_nowhere : (next : List ℕ) (s n b : ℕ) → n ≤ 1 → None ≡ seat_before s (walk next n b)
unfolding walk
found_nowhere next s n b l = grind (arith, nat_tests)

module _ (next : List ℕ) (chains : List Chain) (a s : ℕ) where
  abbrev left : ℕ → ℕ → Type 0
  left i b = IsSought next s (queue_in next chains a) (chain_at chains a).length i b

  pub left_first : left 1 (chain_at chains a).first
  left_first = record {
    bound = omega arith;
    left = grind (arith, nat_tests);
  }

  here : (i b : ℕ) → left i b → i < (chain_at chains a).length
      → IsLeft next s (queue_in next chains a) (suc (suc ((chain_at chains a).length - suc i))) b
  here i b h l = h.left _ (omega (arith, l))

  pub before_is_seat : IsLinked next chains → a < most_queues → (i b : ℕ) → left i b
      → i < (chain_at chains a).length → b < most_seats
  before_is_seat k l i b h m =
      let at = here i b h m in
      let some = front_times next (suc ((chain_at chains a).length - suc i)) b in
      let less = at.within b in
      in_range k a b l (omega (arith, some, less))

  pub left_next : (i b : ℕ) → left i b → i < (chain_at chains a).length → (get_or next b 0 ≡ s → ⊥)
      → left (i + 1) (get_or next b 0)
  left_next i b h m d = record {
    bound = omega (arith, m);
    left = λ n e.
        let at : IsLeft next s (queue_in next chains a) (suc n) b = h.left (suc n) (omega (arith, e)) in
        let more : n ≡ suc (n - 1) = omega (arith, e, m) in
        subst (λ x. IsLeft next s (queue_in next chains a) x (get_or next b 0)) (sym more)
        (one_further next s (queue_in next chains a) (n - 1) b
        (subst (λ x. IsLeft next s (queue_in next chains a) (suc x) b) more at) d);
  }

  pub found : (v : List (List ℕ)) → map (seats_of next) chains ≡ v → (i b : ℕ) → left i b
      → i < (chain_at chains a).length
      → get_or next b 0 ≡ s → Some b ≡ seat_before s (queue_at v a)
  found v e i b h m f =
      let at = here i b h m in
      grind (arith, nat_tests, found_here, queue_is)

  pub not_found : (v : List (List ℕ)) → map (seats_of next) chains ≡ v → (i b : ℕ) → left i b
      → (chain_at chains a).length ≤ i
      → None ≡ seat_before s (queue_at v a)
  not_found v e i b h m =
      let n = (chain_at chains a).length + 1 - i in
      let o = h.bound in
      let at = h.left n (omega (arith, m, o)) in
      found_nowhere next s n b (omega (arith, m)) ∙ (at.same ∙ sym (ap (seat_before s) (queue_is next chains v e a)))
