-- Queues as links: what they show, and what a change of one queue keeps
use Rattle.std.proofs.Common.{◌≡◌, ◌≢◌, ℕ, zero, suc, ◌<◌, ◌≤◌, ◌+◌, ◌==◌, Bool, true, false, cond, List, [], ◌∷◌, map}
use Rattle.std.proofs.Common.{length, refl, sym, ap, subst, ◌∙◌, arith, ⊎_elim, eq-eqb, eqb-true, get_or-set_same, get_or-set_other}
use Rattle.std.proofs.lemmas.{Bool.cases_lt, Bool.cases_eq, Bool.Decides.nat_tests, List.get_or_past, List.length-set}
use Rattle.std.specs.Prelude.{slice_set, nat_lt}
use Rattle.monk_history.proofs.PublicLaws.Meaning.{length_total, total_le, times_le_conditions}
use Rattle.monk_history.specs.{Limits.most_seats, Meaning.Standing.times, Meaning.Standing.times_in_conditions}
use Rattle.monk_floor.proofs.LinkLaws.Walks.{length-walk, ends_there}
use Rattle.monk_floor.specs.{declared.chain.Chain.Chain, Queues.queue_at}
use Rattle.monk_floor.specs.Links.{most_queues, walk, seats_of, empty_chain, chain_at, queue_in, places, EndsWith}
use Rattle.monk_floor.specs.Links.{IsLinked}

walk_there : (next : List ℕ) (n f l : ℕ) → EndsWith (walk next (suc n) f) l → 1 ≤ times l (walk next (suc n) f)
unfolding walk
walk_there next n f l e = ends_there f _ l e

walk-none : (next : List ℕ) (f : ℕ) → [] ≡ walk next 0 f
unfolding walk
walk-none next f = refl

shown : (next : List ℕ) (chains : List Chain) (c : ℕ) → queue_at (map (seats_of next) chains) c ≡ queue_in next chains c
shown next [] c = walk-none next 0
shown next (x ∷ xs) zero = refl
shown next (x ∷ xs) (suc c) = shown next xs c

-- a queue of the links is the queue that is shown
pub queue_is : (next : List ℕ) (chains : List Chain) (v : List (List ℕ)) → map (seats_of next) chains ≡ v → (c : ℕ)
    → queue_at v c ≡ queue_in next chains c
queue_is next chains v e c = ap (λ x. queue_at x c) (sym e) ∙ shown next chains c

pub length_is : (next : List ℕ) (chains : List Chain) (v : List (List ℕ)) → map (seats_of next) chains ≡ v → (c : ℕ)
    → (chain_at chains c).length ≡ length (queue_at v c)
length_is next chains v e c =
    sym (ap length (queue_is next chains v e c) ∙ length-walk next (chain_at chains c).length (chain_at chains c).first)

-- one of the queues has changed
times_changed : (n a s : ℕ) (q r : ℕ → List ℕ) → ((c : ℕ) → a ≢ c → r c ≡ q c) → n ≤ a
    → times_in_conditions n s r ≡ times_in_conditions n s q
times_changed zero a s q r h l = refl
times_changed (suc n) a s q r h l =
    let here : times s (r n) ≡ times s (q n) = ap (times s) (h n (λ e. absurd (omega (arith, e, l)))) in
    omega (arith, times_changed n a s q r h (omega (arith, l)), here)

times_one : (n a s : ℕ) (q r : ℕ → List ℕ) → ((c : ℕ) → a ≢ c → r c ≡ q c) → a < n
    → times_in_conditions n s r + times s (q a) ≡ times_in_conditions n s q + times s (r a)
times_one zero a s q r h l = absurd (omega (arith, l))
times_one (suc n) a s q r h l =
    ⊎_elim
    (λ k. let here : times s (r n) ≡ times s (q n) = ap (times s) (h n (λ e. absurd (omega (arith, e, k)))) in
    omega (arith, times_one n a s q r h k, here))
    (λ k. let e : a ≡ n = omega (arith, k, l) in
    let old : times s (q a) ≡ times s (q n) = ap (λ x. times s (q x)) e in
    let new : times s (r a) ≡ times s (r n) = ap (λ x. times s (r x)) e in
    omega (arith, times_changed n a s q r h (omega (arith, e)), old, new))
    (cases_lt a n)

pub places_one : (a s : ℕ) (q r : ℕ → List ℕ) → a < most_queues → ((c : ℕ) → a ≢ c → r c ≡ q c)
    → places s r + times s (q a) ≡ places s q + times s (r a)
unfolding places
places_one a s q r l h = times_one most_queues a s q r h l

pub times_le : (a s : ℕ) (q : ℕ → List ℕ) → a < most_queues → times s (q a) ≤ places s q
unfolding places
times_le a s q l = times_le_conditions most_queues s a q l

pub cond_le : (b : Bool) → cond b 1 0 ≤ 1
cond_le true = omega arith
cond_le false = omega arith

cond_lt : (s n : ℕ) → 1 ≤ cond (nat_lt s n) 1 0 → s < n
cond_lt s n h = grind (arith, h)

cond_none : (s n : ℕ) → n ≤ s → ◌≡◌ {A = ℕ} (cond (nat_lt s n) 1 0) 0
cond_none s n h = grind (arith, h)

at_other : (chains : List Chain) (a c : ℕ) (new : Chain) → a ≢ c
    → chain_at (slice_set chains a new) c ≡ chain_at chains c
at_other chains a c new d = get_or-set_other chains a c new empty_chain (λ e. d (sym e))

module _ {next : List ℕ} {chains : List Chain} where
  -- a seat is in a queue at most once, and is one of the seats
  pub at_most_once : IsLinked next chains → (a s : ℕ) → a < most_queues → times s (queue_in next chains a) ≤ 1
  at_most_once k a s l = omega (arith, times_le a s (queue_in next chains) l, k.once s, cond_le (nat_lt s most_seats))

  pub in_range : IsLinked next chains → (a s : ℕ) → a < most_queues → 1 ≤ times s (queue_in next chains a)
      → s < most_seats
  in_range k a s l h = cond_lt s most_seats (omega (arith, times_le a s (queue_in next chains) l, k.once s, h))

  pub few : IsLinked next chains → (a : ℕ) → a < most_queues → (chain_at chains a).length ≤ most_seats
  few k a l =
      let long = length-walk next (chain_at chains a).length (chain_at chains a).first in
      let all = length_total most_seats (queue_in next chains a)
      (λ s n. omega (arith, times_le a s (queue_in next chains) l, k.once s, cond_none s most_seats n)) in
      grind (arith, nat_tests, total_le, at_most_once)

  -- a queue that doesn't exist has nobody
  past : IsLinked next chains → (c : ℕ) → most_queues ≤ c → queue_in next chains c ≡ []
  past k c l =
      ap (λ x. walk next x.length x.first) (get_or_past chains c empty_chain (omega (arith, k.count, l)))
      ∙ sym (walk-none next 0)

  pub last_there : IsLinked next chains → (a n : ℕ) → (chain_at chains a).length ≡ suc n
      → 1 ≤ times (chain_at chains a).last (queue_in next chains a)
  last_there k a n e =
      subst (λ x. 1 ≤ times (chain_at chains a).last (walk next x (chain_at chains a).first)) (sym e)
      (walk_there next n (chain_at chains a).first (chain_at chains a).last
      (subst (λ x. EndsWith (walk next x (chain_at chains a).first) (chain_at chains a).last) e (k.last a)))

  pub last_in_range : IsLinked next chains → (a n : ℕ) → a < most_queues → (chain_at chains a).length ≡ suc n
      → (chain_at chains a).last < most_seats
  last_in_range k a n l e = in_range k a (chain_at chains a).last l (last_there k a n e)

  -- a seat of one queue is in no other
  pub apart : IsLinked next chains → (a c s : ℕ) → a < most_queues → a ≢ c → 1 ≤ times s (queue_in next chains a)
      → times s (queue_in next chains c) ≡ 0
  apart k a c s l d h =
      ⊎_elim
      (λ m. let without : (x : ℕ) → a ≢ x → taken x ≡ queue_in next chains x = λ x y. taken_other x y in
      let one = places_one a s (queue_in next chains) taken l without in
      let none : times s (taken a) ≡ 0 = ap (times s) taken_here in
      let same : times s (taken c) ≡ times s (queue_in next chains c) = ap (times s) (taken_other c d) in
      omega (arith, one, none, same, times_le c s taken m, k.once s, cond_le (nat_lt s most_seats), h))
      (λ m. ap (times s) (past k c m))
      (cases_lt c most_queues)
    where
      taken : ℕ → List ℕ
      taken x = cond (a == x) [] (queue_in next chains x)

      taken_here : taken a ≡ []
      taken_here = ap (λ b. cond b [] (queue_in next chains a)) (eq-eqb a a refl)

      taken_other : (x : ℕ) → a ≢ x → taken x ≡ queue_in next chains x
      taken_other x d = when_not (a == x) (λ e. d (eqb-true a x e))
        where
          when_not : (b : Bool) → (b ≡ true → ⊥) → cond b [] (queue_in next chains x) ≡ queue_in next chains x
          when_not true f = absurd (f refl)
          when_not false f = refl

  -- one queue has changed: what holds for the links then
  pub linked_again : IsLinked next chains → (others : List ℕ) (a : ℕ) (new : Chain) → a < most_queues
      → ((c : ℕ) → a ≢ c → seats_of others (chain_at chains c) ≡ queue_in next chains c)
      → EndsWith (seats_of others new) new.last
      → ((s : ℕ)
      → places s (queue_in next chains) + times s (seats_of others new) ≤ cond (nat_lt s most_seats) 1 0 + times s
      (queue_in next chains a))
      → IsLinked others (slice_set chains a new)
  linked_again k others a new l same last once = record {
    count = length-set chains a new ∙ k.count;
    last = λ c. ⊎_elim
        (λ e. subst (λ x. EndsWith (seats_of others (chain_at (slice_set chains a new) x))
        (chain_at (slice_set chains a new) x).last) e
        (subst (λ x. EndsWith (seats_of others x) x.last) (sym here) last))
        (λ d. subst (λ x. EndsWith (seats_of others x) x.last) (sym (at_other chains a c new d))
        (subst (λ x. EndsWith x (chain_at chains c).last) (sym (same c d)) (k.last c)))
        (cases_eq a c);
    once = λ s.
        let one = places_one a s (queue_in next chains) (queue_in others (slice_set chains a new)) l
        (λ c d. ap (seats_of others) (at_other chains a c new d) ∙ same c d) in
        let there : times s (queue_in others (slice_set chains a new) a) ≡ times s (seats_of others new) =
        ap (λ x. times s (seats_of others x)) here in
        omega (arith, one, there, once s);
  }
    where
      here : chain_at (slice_set chains a new) a ≡ new
      here = get_or-set_same chains a new empty_chain (omega (arith, l, k.count))

  -- one queue has changed: what is shown then
  pub seen_again : IsLinked next chains → (v : List (List ℕ)) → map (seats_of next) chains ≡ v
      → (others : List ℕ) (a : ℕ)
      (new : Chain) → a < most_queues → ((c : ℕ) → a ≢ c → seats_of others (chain_at chains c) ≡ queue_in next chains c)
      → (q : ℕ → List ℕ) → q a ≡ seats_of others new → ((c : ℕ) → a ≢ c → q c ≡ queue_at v c)
      → (c : ℕ) → queue_at (map (seats_of others) (slice_set chains a new)) c ≡ q c
  seen_again k v e others a new l same q here rest c =
      queue_is others (slice_set chains a new) _ refl c ∙
      ⊎_elim
      (λ x. subst (λ y. queue_in others (slice_set chains a new) y ≡ q y) x
      (ap (seats_of others) (get_or-set_same chains a new empty_chain (omega (arith, l, k.count))) ∙ sym here))
      (λ d. ap (seats_of others) (at_other chains a c new d)
      ∙ (same c d ∙ (sym (queue_is next chains v e c) ∙ sym (rest c d))))
      (cases_eq a c)
