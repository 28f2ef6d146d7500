-- How many of the first numbers pass a test
use Rattle.std.proofs.Common.{◌≡◌, ℕ, zero, suc, ◌+◌, ◌<◌, ◌≤◌, ◌⊎◌, inl, inr, Bool, true, false, refl, ap, arith}
use Rattle.std.proofs.lemmas.Bool.{cases_Bool, Decides.nat_tests}
use Rattle.monk_judge.specs.Counts.{count, one}

pub one_most : (b : Bool) → one b ≤ 1
one_most b = grind (arith, nat_tests)

pub count_same : (f g : ℕ → Bool) (n : ℕ) → ((j : ℕ) → f j ≡ g j) → count f n ≡ count g n
count_same f g n h = grind (arith, nat_tests)

-- the two tests differ at one number at most
by_eq : (s n : ℕ) → (n ≡ s) ⊎ (n ≡ s → ⊥)
by_eq s n = grind arith

pub count_below : (f g : ℕ → Bool) (s n : ℕ) → ((j : ℕ) → (j ≡ s → ⊥) → f j ≡ g j) → n ≤ s → count f n ≡ count g n
count_below f g s zero h le = refl
count_below f g s (suc n) h le =
    let a : count f n ≡ count g n = count_below f g s n h (omega arith) in
    let b : one (f n) ≡ one (g n) = ap one (h n (λ e. absurd (omega arith))) in omega arith

strictly : (s n : ℕ) → (n ≡ s → ⊥) → s < suc n → s < n
strictly s n ne lt = grind arith

pub lt_or : (s n : ℕ) → (s < n) ⊎ (n ≤ s)
lt_or s n = grind arith

-- the counts differ by what the tests say of that number
pub count_moved : (f g : ℕ → Bool) (s n : ℕ) → ((j : ℕ) → (j ≡ s → ⊥) → f j ≡ g j) → s < n
    → count f n + one (g s) ≡ count g n + one (f s)
count_moved f g s zero h lt = absurd (omega arith)
count_moved f g s (suc n) h lt =
    elim (by_eq s n) as (λ k. count f (suc n) + one (g s) ≡ count g (suc n) + one (f s)) [
      | inl e ↦ grind (arith, nat_tests, count_below)
      | inr ne ↦
          let a : count f n + one (g s) ≡ count g n + one (f s) = count_moved f g s n h
          (omega (arith, strictly s n ne lt)) in
          let b : one (f n) ≡ one (g n) = ap one (h n ne) in omega arith
    ]

pub count_drop : (f g : ℕ → Bool) (s n : ℕ) → ((j : ℕ) → (j ≡ s → ⊥) → f j ≡ g j) → count f n ≤ count g n + 1
count_drop f g s n h = elim (lt_or s n) as (λ k. count f n ≤ count g n + 1) [
  | inl lt ↦ let a = count_moved f g s n h lt in let b = one_most (f s) in omega arith
  | inr le ↦ let a = count_below f g s n h le in omega arith
]

pub record Found (f : ℕ → Bool) (n : ℕ) : Type 0 where
  pub at : ℕ
  pub passes : f at ≡ true

pub count_some : (f : ℕ → Bool) (n : ℕ) → (count f n ≡ 0) ⊎ Found f n
count_some f zero = inl refl
count_some f (suc n) =
    elim (cases_Bool (f n)) as (λ k. (count f (suc n) ≡ 0) ⊎ Found f (suc n)) [
      | inl here ↦ inr (record { at = n; passes = here })
      | inr not_here ↦ elim (count_some f n) as (λ k. (count f (suc n) ≡ 0) ⊎ Found f (suc n)) [
        | inl none ↦ inl (let b : one (f n) ≡ 0 = ap one not_here in omega arith)
        | inr it ↦ inr (record { at = it.at; passes = it.passes })
      ]
    ]

pub count_none : (f : ℕ → Bool) (n : ℕ) → ((j : ℕ) → f j ≡ false) → count f n ≡ 0
count_none f zero h = refl
count_none f (suc n) h = let a = count_none f n h in let b : one (f n) ≡ 0 = ap one (h n) in omega arith
