-- Sums over the seats of a run
use Rattle.std.proofs.Common.{◌≡◌, ℕ, zero, suc, ◌+◌, ◌-◌, ◌*◌, ◌/◌, ◌<◌, ◌≤◌, false, cond, nat_lt, nat_eq}
use Rattle.std.proofs.Common.{sym, ap, ◌∙◌, arith}
use Rattle.std.proofs.lemmas.Bool.{lt-ltb, Decides.nat_tests}
use Rattle.monk_samples.{specs.Rounds.rounds_of, specs.declared.sample.Sample.TheVariants.Buffer}
use Rattle.monk_samples.{specs.declared.sample.Sample.TheVariants.Shop, proofs.DoneLaws.sum_to}

-- the sum over n seats from seat i on
abbrev pub over : (ℕ → ℕ) → ℕ → ℕ → ℕ
over f zero i = 0
over f (suc n) i = f i + over f n (suc i)

over_same : (f : ℕ → ℕ) (n i x : ℕ) → ((s : ℕ) → i ≤ s → s < i + n → f s ≡ x) → over f n i ≡ n * x
over_same f zero i x same = omega arith
over_same f (suc n) i x same =
    (λ j. same i (omega arith) (omega arith) j
    + over_same f n (suc i) x (λ s low high. same s (omega (arith, low)) (omega (arith, high))) j)
    ∙ omega arith

none_before : (x : ℕ) → 0 + x ≡ x
none_before x = omega arith

plus : (a b c : ℕ) → a + b + c ≡ a + (b + c)
plus a b c = omega arith

over_then : (f : ℕ → ℕ) (a b i : ℕ) → over f (a + b) i ≡ over f a i + over f b (i + a)
over_then f zero b i = grind (arith, nat_tests, none_before)
over_then f (suc a) b i =
    let here : suc a + b ≡ suc (a + b) = omega arith in let there : suc i + a ≡ i + suc a = omega arith in
    ap (λ n. over f n i) here
    ∙ ap (λ x. f i + x) (over_then f a b (suc i) ∙ ap (λ j. over f a (suc i) + over f b j) there)
    ∙ sym (plus (f i) (over f a (suc i)) (over f b (i + suc a)))

above : (s m : ℕ) → m ≤ s → nat_lt s m ≡ false
above s m h = grind (arith, nat_tests)

-- the sum over a first part, over as many more, and over the rest
module _ (f : ℕ → ℕ) (m rest x y : ℕ) (first : (s : ℕ) → s < m → f s ≡ x)
    (second : (s : ℕ) → m ≤ s → s < m + m → f s ≡ y)
    (last : (s : ℕ) → m + m ≤ s → f s ≡ 0) where
  pub halves : over f (m + (m + rest)) 0 ≡ m * x + m * y
  halves =
      over_then f m (m + rest) 0
      ∙ (λ i. over_same f m 0 x (λ s low high. first s (omega (arith, high))) i
      + (over_then f m rest (0 + m)
      ∙ (λ j. over_same f m (0 + m) y (λ s low high. second s (omega (arith, low)) (omega (arith, high))) j
      + over_same f rest (0 + m + m) 0 (λ s low high. last s (omega (arith, low))) j)) i)
      ∙ omega arith

-- the seats of a buffer and of a book: two halves, and an idle last one
module _ (seats rounds : ℕ) where
  abbrev half : ℕ
  half = seats / 2

  all_seats : seats ≡ half + (half + (seats - half - half))
  all_seats = omega arith

  works : (s : ℕ) → s < half + half → rounds_of Buffer seats rounds s ≡ rounds
  works s near = ap (λ b. cond b rounds 0) (lt-ltb s (seats / 2 * 2) (omega (arith, near)))

  rests : (s : ℕ) → half + half ≤ s → rounds_of Buffer seats rounds s ≡ 0
  rests s far = ap (λ b. cond b rounds 0) (above s (seats / 2 * 2) (omega (arith, far)))

  -- each of the first half has these, and the others none
  pub first_half : over (λ s. rounds_of Buffer seats rounds s * cond (nat_lt s half) 1 0) seats 0 ≡ half * rounds
  first_half =
      ap (λ n. over (λ s. rounds_of Buffer seats rounds s * cond (nat_lt s half) 1 0) n 0) all_seats
      ∙ halves (λ s. rounds_of Buffer seats rounds s * cond (nat_lt s half) 1 0) half (seats - half - half) rounds 0
      (λ s near. (λ i. works s (omega (arith, near)) i * cond (lt-ltb s half near i) 1 0) ∙ omega arith)
      (λ s low high. ap (λ b. rounds_of Buffer seats rounds s * cond b 1 0) (above s half low) ∙ omega arith)
      (λ s far. ap (λ b. rounds_of Buffer seats rounds s * cond b 1 0) (above s half (omega (arith, far)))
      ∙ omega arith)
      ∙ omega arith

  pub second_half : over (λ s. rounds_of Buffer seats rounds s * cond (nat_lt s half) 0 1) seats 0 ≡ half * rounds
  second_half =
      ap (λ n. over (λ s. rounds_of Buffer seats rounds s * cond (nat_lt s half) 0 1) n 0) all_seats
      ∙ halves (λ s. rounds_of Buffer seats rounds s * cond (nat_lt s half) 0 1) half (seats - half - half) 0 rounds
      (λ s near. ap (λ b. rounds_of Buffer seats rounds s * cond b 0 1) (lt-ltb s half near) ∙ omega arith)
      (λ s low high. (λ i. works s high i * cond (above s half low i) 0 1) ∙ omega arith)
      (λ s far. (λ i. rests s far i * cond (above s half (omega (arith, far)) i) 0 1) ∙ omega arith)
      ∙ omega arith

  -- each of the first half has the numbers up to its rounds
  pub first_items : over (λ s. cond (nat_lt s half) (sum_to (rounds_of Buffer seats rounds s)) 0) seats 0
      ≡ half * sum_to rounds
  first_items =
      ap (λ n. over (λ s. cond (nat_lt s half) (sum_to (rounds_of Buffer seats rounds s)) 0) n 0) all_seats
      ∙ halves (λ s. cond (nat_lt s half) (sum_to (rounds_of Buffer seats rounds s)) 0) half
      (seats - half - half) (sum_to rounds) 0
      (λ s near. (λ i. cond (lt-ltb s half near i) (sum_to (works s (omega (arith, near)) i)) 0))
      (λ s low high. ap (λ b. cond b (sum_to (rounds_of Buffer seats rounds s)) 0) (above s half low))
      (λ s far. ap (λ b. cond b (sum_to (rounds_of Buffer seats rounds s)) 0) (above s half (omega (arith, far))))
      ∙ omega arith

-- a shop: the barber, and every other seat
module _ (seats rounds : ℕ) (some : 1 ≤ seats) where
  others_are : (s : ℕ) → 1 ≤ s → nat_eq s 0 ≡ false
  others_are s h = grind (arith, nat_tests)

  barber : {f : ℕ → ℕ} (x y : ℕ) → f 0 ≡ x → ((s : ℕ) → 1 ≤ s → f s ≡ y) → over f seats 0 ≡ x + (seats - 1) * y
  barber x y h h' = grind (arith, nat_tests, over_same)

  pub calls_all : over (λ s. rounds_of Shop seats rounds s * cond (nat_eq s 0) 1 0) seats 0 ≡ (seats - 1) * rounds
  calls_all =
      barber {f = λ s. rounds_of Shop seats rounds s * cond (nat_eq s 0) 1 0} ((seats - 1) * rounds) 0 (omega arith)
      (λ s low. ap (λ b. cond b ((seats - 1) * rounds) rounds * cond b 1 0) (others_are s low) ∙ omega arith)
      ∙ omega arith

  pub visits_all : over (λ s. rounds_of Shop seats rounds s * cond (nat_eq s 0) 0 1) seats 0 ≡ (seats - 1) * rounds
  visits_all = grind (arith, nat_tests, barber, nat_eq, others_are)

twice : (n : ℕ) → sum_to n + sum_to n ≡ n * (n + 1)
twice zero = omega arith
twice (suc n) = let before : sum_to n + sum_to n ≡ n * (n + 1) = twice n in omega (arith, before)

-- the numbers from 1 to n add up to half of n * (n + 1)
pub sum_is : (n : ℕ) → sum_to n ≡ n * (n + 1) / 2
sum_is n = omega (arith, twice n)
