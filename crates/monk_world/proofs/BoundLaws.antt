-- No word grows beyond what the events allow
use Rattle.std.proofs.Common.{◌≡◌, ◌≢◌, ℕ, zero, suc, ◌+◌, ◌<◌, ◌≤◌, Bool, List, [], ◌∷◌}
use Rattle.std.proofs.Common.{◌++◌, length, map, ⊎_elim, sym, refl, ap, ◌∙◌, subst, inl, inr, arith, eq-eqb}
use Rattle.std.proofs.{Common.length-append, Math.Nat.mul-le-mul_right}
use Rattle.std.proofs.lemmas.Bool.{cases_lt, Decides.eqb_tells, Decides.nat_tests}
use Rattle.monk_history.proofs.PublicLaws.Meaning.{total_le, length_total, length-events_of, length-events_of-push}
use Rattle.monk_history.specs.Meaning.{Counts.events_of, Counts.left_of, Events.seat_of, Standing.times}
use Rattle.monk_history.specs.declared.event.Event.{Event}
use Rattle.monk_world.proofs.UpdateLaws.{at_update, update_here, update_else}
use Rattle.monk_world.specs.{Update.update, State.State, State.with_event, World.World, declared.place.Place.Place}
use Rattle.monk_world.specs.Kept.{comes_in, comes_back, sum_below, IsBounded}

-- a sum where one number changes
module _ {X : Type 0} (g : X → ℕ) (at : ℕ → X) (i : ℕ) (x : X) where
  sum_past : (n : ℕ) → n ≤ i → sum_below n (λ j. g (update at i x j)) ≡ sum_below n (λ j. g (at j))
  sum_past zero l = refl
  sum_past (suc n) l =
      let same : g (update at i x n) ≡ g (at n) = ap g (update_else at i x n (λ e. omega arith)) in
      omega (arith, same, sum_past n (omega arith))

  pub sum_update : (n : ℕ) → i < n
      → sum_below n (λ j. g (update at i x j)) + g (at i) ≡ sum_below n (λ j. g (at j)) + g x
  sum_update zero l = absurd (omega arith)
  sum_update (suc n) l =
      ⊎_elim
      (λ k. let same : g (update at i x n) ≡ g (at n) = ap g (update_else at i x n (λ e. omega arith))
      in omega (arith, same, sum_update n k))
      (λ k.
      let e : i ≡ n = omega arith in
      let here : g (update at i x n) ≡ g x = grind (arith, nat_tests, update_here) in
      let old : g (at i) ≡ g (at n) = ap (λ (m : ℕ). g (at m)) e in
      omega (arith, here, old, sum_past n (omega arith)))
      (cases_lt i n)

pub sum_few : (n : ℕ) (f : ℕ → ℕ) → ((j : ℕ) → f j ≤ 1) → sum_below n f ≤ n
sum_few zero f h = omega arith
sum_few (suc n) f h = omega (arith, h n, sum_few n f h)

pub comes_once : (p : Place) → comes_in p ≤ 1
comes_once p = grind (arith, nat_tests)

pub called_once : (p : Place) → comes_back p ≤ 1
called_once p = grind (arith, nat_tests)

length_seats : (h : List Event) → length (map seat_of h) ≡ length h
length_seats [] = refl
length_seats (e ∷ es) = ap suc (length_seats es)

module _ (s : State) (b : IsBounded s) where
  pub few_events : length s.floor.history ≤ 33554432
  few_events =
      let h = s.floor.history in
      let long = length_total s.floor.seats (map seat_of h) (λ j l. sym (length-events_of h j) ∙ b.outside j l) in
      let most = total_le s.floor.seats s.floor.budget (λ j. times j (map seat_of h))
      (λ j. omega (arith, b.within j, length-events_of h j)) in
      let product = mul-le-mul_right s.floor.budget b.few in
      omega (arith, long, most, product, length_seats h, b.low)

  pub few_drawn : s.world.drawn < 2147483648
  few_drawn = grind (arith, nat_tests, few_events, sum_few, comes_once)

  -- seat i goes to p, and nothing is recorded
  pub bounded_words : (i : ℕ) → i < s.floor.seats → (w : World) (known : ℕ → Bool) (p : Place)
      → w.place ≡ update s.world.place i p
      → w.drawn + comes_in (s.world.place i) ≤ s.world.drawn + comes_in p
      → ((j : ℕ) → w.count j ≤ length (events_of s.floor.history j) + comes_back (w.place j))
      → IsBounded (record { world = w; known = known; floor = s.floor })
  bounded_words i near w known p is drawn counted = record {
    few = b.few;
    low = b.low;
    within = b.within;
    outside = b.outside;
    drawn =
        let same : sum_below s.floor.seats (λ j. comes_in (w.place j))
        ≡ sum_below s.floor.seats (λ j. comes_in (update s.world.place i p j)) =
        ap (λ (place : ℕ → Place). sum_below s.floor.seats (λ j. comes_in (place j))) is in
        omega (arith, b.drawn, drawn, same, sum_update comes_in s.world.place i p s.floor.seats near);
    counted = counted;
  }

  one_more : (e : Event) (j : ℕ) → j ≢ seat_of e
      → length (events_of (s.floor.history ++ e ∷ []) j) ≡ length (events_of s.floor.history j)
  one_more e j ne = grind (arith, nat_tests, length-events_of-push)

  own_more : (e : Event)
      → length (events_of (s.floor.history ++ e ∷ []) (seat_of e)) ≡ length (events_of s.floor.history (seat_of e)) + 1
  own_more e = grind (arith, nat_tests, length-events_of-push, eq-eqb)

  pub no_less : (e : Event) (j : ℕ)
      → length (events_of s.floor.history j) ≤ length (events_of (s.floor.history ++ e ∷ []) j)
  no_less e j = omega (arith, length-events_of-push s.floor.history e j)

  -- an event of seat i is recorded
  pub bounded_floor : (i : ℕ) → i < s.floor.seats → (w : World) (known : ℕ → Bool) (p : Place)
      → w.place ≡ update s.world.place i p
      → (e : Event) → seat_of e ≡ i → 1 ≤ left_of s.floor.budget s.floor.history i
      → w.drawn + comes_in (s.world.place i) ≤ s.world.drawn + comes_in p + 1
      → ((j : ℕ) → w.count j ≤ length (events_of (s.floor.history ++ e ∷ []) j) + comes_back (w.place j))
      → IsBounded (record { world = w; known = known; floor = with_event s.floor e })
  bounded_floor i near w known p is e seat left drawn counted = record {
    few = b.few;
    low = b.low;
    within = λ j. elim (eqb_tells j i) [
      | inl h ↦ grind (arith, nat_tests, own_more)
      | inr h ↦ omega (arith, b.within j, one_more e j (λ z. h.1 (z ∙ seat)))
    ];
    outside = λ j l. one_more e j (λ z. omega (arith, seat, z)) ∙ b.outside j l;
    drawn =
        let same : sum_below s.floor.seats (λ j. comes_in (w.place j))
        ≡ sum_below s.floor.seats (λ j. comes_in (update s.world.place i p j)) =
        ap (λ (place : ℕ → Place). sum_below s.floor.seats (λ j. comes_in (place j))) is in
        omega (
          arith,
          b.drawn,
          drawn,
          same,
          sum_update comes_in s.world.place i p s.floor.seats near,
          length-append s.floor.history (e ∷ []),
        );
    counted = counted;
  }

  -- its count stays, and it was not on its way back
  pub count_stays : (i : ℕ) (p : Place) → comes_back (s.world.place i) ≡ 0 → (j : ℕ)
      → s.world.count j ≤ length (events_of s.floor.history j) + comes_back (update s.world.place i p j)
  count_stays i p none =
      at_update s.world.place i p (λ j y. s.world.count j ≤ length (events_of s.floor.history j) + comes_back y)
      (omega (arith, b.counted i, none)) (λ j _. b.counted j)

  pub count_grows : (i : ℕ) (p : Place) (e : Event) → seat_of e ≡ i → (j : ℕ)
      → s.world.count j ≤ length (events_of (s.floor.history ++ e ∷ []) j) + comes_back (update s.world.place i p j)
  count_grows i p e seat =
      at_update s.world.place i p
      (λ j y. s.world.count j ≤ length (events_of (s.floor.history ++ e ∷ []) j) + comes_back y)
      (let own : length (events_of (s.floor.history ++ e ∷ []) i) ≡ length (events_of s.floor.history i) + 1 =
      subst (λ (m : ℕ). length (events_of (s.floor.history ++ e ∷ []) m)
      ≡ length (events_of s.floor.history m) + 1) seat (own_more e) in
      omega (arith, b.counted i, own, called_once (s.world.place i)))
      (λ j _. omega (arith, b.counted j, no_less e j))

  -- it counts a call, and is on its way back
  pub count_looks : (i c : ℕ) (p : Place) → c ≤ length (events_of s.floor.history i) + comes_back p → (j : ℕ)
      → update s.world.count i c j ≤ length (events_of s.floor.history j) + comes_back (update s.world.place i p j)
  count_looks i c p h j = grind (arith, nat_tests, at_update, update_here, update_else)
