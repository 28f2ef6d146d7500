-- Sums over a history, seat by seat
use Rattle.std.proofs.Common.{◌≡◌, ◌≢◌, ℕ, ◌+◌, ◌==◌, zero, suc, Bool, true, false, not, cond, List, [], ◌∷◌, length}
use Rattle.std.proofs.Common.{refl, sym, ap, subst, ◌∙◌, arith, inl, inr}
use Rattle.std.proofs.lemmas.Bool.Decides.{eqb_tells, nat_tests}
use Rattle.std.proofs.lemmas.List.{Elements.All-cons, Elements.All-head, Elements.All-tail, Sums.sum_by-cons}
use Rattle.std.specs.Prelude.{All, AllPairs, filter, sum_by}
use Rattle.monk_history.specs.{Meaning.Counts.events_of, Meaning.Events.seat_of, declared.event.Event.Event}

-- what all seats except this one did
unfoldable pub others_than : ℕ → List Event → List Event
others_than s h = filter (λ e. not (seat_of e == s)) h

-- what the other seats did
abbrev pub rest_of : List ℕ → List Event → List Event
rest_of [] h = h
rest_of (s ∷ ss) h = rest_of ss (others_than s h)

either_side : (w : Event → ℕ) (b : Bool) (e : Event) (xs ys : List Event) (n : ℕ) → n ≡ sum_by w xs + sum_by w ys
    → w e + n ≡ sum_by w (cond b (e ∷ xs) xs) + sum_by w (cond (not b) (e ∷ ys) ys)
either_side w b e xs ys n is = grind (arith, nat_tests, sum_by-cons)

sum_split : (w : Event → ℕ) (s : ℕ) (h : List Event)
    → sum_by w h ≡ sum_by w (events_of h s) + sum_by w (others_than s h)
unfolding events_of others_than
sum_split w s [] = refl
sum_split w s (e ∷ es) = grind (arith, nat_tests, sum_by-cons, either_side, sum_split w s es)

keeps_one : (p : Event → Bool) (b : Bool) (e : Event) (xs ys : List Event) → (b ≡ true → p e ≡ false) → filter p xs ≡ ys
    → filter p (cond (not b) (e ∷ xs) xs) ≡ cond (p e) (e ∷ ys) ys
keeps_one p b e xs ys fails is = grind (arith, nat_tests)

-- another seat's events are all there
others_same : (s t : ℕ) → s ≢ t → (h : List Event) → events_of (others_than s h) t ≡ events_of h t
unfolding events_of others_than
others_same s t ne [] = refl
others_same s t ne (e ∷ es) =
    keeps_one (λ x. seat_of x == t) (seat_of e == s) e (filter (λ x. not (seat_of x == s)) es)
    (filter (λ x. seat_of x == t) es)
    (λ is_s. apart (seat_of e) is_s) (others_same s t ne es)
  where
    apart : (n : ℕ) → (n == s) ≡ true → (n == t) ≡ false
    apart n is_s = grind (arith, is_s, ne)

drops_one : (p : Event → Bool) (b : Bool) (e : Event) (xs : List Event) → p e ≡ b → filter p xs ≡ []
    → filter p (cond (not b) (e ∷ xs) xs) ≡ []
drops_one p b e xs tells none = grind (arith, nat_tests)

-- and none of its own are
others_none : (s : ℕ) (h : List Event) → events_of (others_than s h) s ≡ []
unfolding events_of others_than
others_none s [] = refl
others_none s (e ∷ es) = grind (arith, nat_tests, drops_one, others_none s es)

-- numbers that are the same one by one have the same sum
pub same_sums : {X : Type 0} (f g : X → ℕ) (xs : List X) → All (λ x. f x ≡ g x) xs → sum_by f xs ≡ sum_by g xs
same_sums f g [] same = refl
same_sums f g (x ∷ xs) same =
    sum_by-cons f x xs
    ∙ (λ i. All-head (λ y. f y ≡ g y) x xs same i + same_sums f g xs (All-tail (λ y. f y ≡ g y) x xs same) i)
    ∙ sym (sum_by-cons g x xs)

abbrev pub AreDistinct : List ℕ → Type 0
AreDistinct ss = AllPairs (λ s t. s ≢ t) ss

later_differ : (s : ℕ) (ss : List ℕ) → AreDistinct (s ∷ ss) → All (λ t. s ≢ t) ss
later_differ s ss apart k d within = apart zero (suc k) d (omega arith) (omega arith)

rest_distinct : (s : ℕ) (ss : List ℕ) → AreDistinct (s ∷ ss) → AreDistinct ss
rest_distinct s ss apart i j d lt within = apart (suc i) (suc j) d (omega arith) (omega arith)

-- the sum of a weight over a history is the sum over distinct seats of the sum over each one's events, and the sum
-- over the rest
pub sum_by_seats : (w : Event → ℕ) (ss : List ℕ) (h : List Event) → AreDistinct ss
    → sum_by w h ≡ sum_by (λ s. sum_by w (events_of h s)) ss + sum_by w (rest_of ss h)
sum_by_seats w [] h apart = omega arith
sum_by_seats w (s ∷ ss) h apart =
    let first = sum_split w s h in
    let later = sum_by_seats w ss (others_than s h) (rest_distinct s ss apart) in
    let same = same_sums (λ t. sum_by w (events_of (others_than s h) t)) (λ t. sum_by w (events_of h t)) ss
    (λ k d within. ap (sum_by w) (others_same s _ (later_differ s ss apart k d within) h)) in
    let both = sum_by-cons (λ t. sum_by w (events_of h t)) s ss in
    omega (arith, first, later, same, both)

-- a seat that is not among them has all its events in the rest
pub rest_has : (ss : List ℕ) (h : List Event) (t : ℕ) → All (λ s. s ≢ t) ss → events_of (rest_of ss h) t ≡ events_of h t
rest_has [] h t apart = refl
rest_has (s ∷ ss) h t apart =
    rest_has ss (others_than s h) t (All-tail (λ x. x ≢ t) s ss apart)
    ∙ others_same s t (All-head (λ x. x ≢ t) s ss apart) h

first_is : (e : Event) (es : List Event) (s : ℕ) → seat_of e ≡ s → events_of (e ∷ es) s ≡ e ∷ events_of es s
unfolding events_of
first_is e es s is = grind (arith, nat_tests)

-- nobody did anything
nobody : (h : List Event) → ((t : ℕ) → events_of h t ≡ []) → h ≡ []
nobody [] none = refl
nobody (e ∷ es) none =
    absurd (let z = ap length (sym (first_is e es (seat_of e) refl) ∙ none (seat_of e)) in omega (arith, z))

-- if no other seat has an event, nothing is left
pub no_rest : (ss : List ℕ) (h : List Event) → ((t : ℕ) → All (λ s. s ≢ t) ss → events_of h t ≡ []) → rest_of ss h ≡ []
no_rest [] h none = nobody h (λ t. none t (λ k d within. absurd (omega arith)))
no_rest (s ∷ ss) h none = no_rest ss (others_than s h) (λ t apart. elim (eqb_tells s t) [
  | inl is ↦ subst (λ (x : ℕ). events_of (others_than s h) x ≡ []) is.1 (others_none s h)
  | inr ne ↦ others_same s t ne.1 h ∙ none t (All-cons (λ x. x ≢ t) s ss ne.1 apart)
])

-- so the whole is the sum over the seats, if no other seat did anything
pub sum_by_all_seats : (w : Event → ℕ) (ss : List ℕ) (h : List Event) → AreDistinct ss
    → ((t : ℕ) → All (λ s. s ≢ t) ss → events_of h t ≡ []) → sum_by w h ≡ sum_by (λ s. sum_by w (events_of h s)) ss
sum_by_all_seats w ss h apart none = grind (arith, nat_tests, sum_by_seats, no_rest)

-- the length of a list is its weight if each element weighs 1
pub length-sum_by : (h : List Event) → length h ≡ sum_by (λ e. 1) h
length-sum_by [] = refl
length-sum_by (e ∷ es) = let a = sum_by-cons (λ (x : Event). 1) e es in let b = length-sum_by es in omega (arith, a, b)
