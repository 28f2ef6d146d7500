-- How many of the first numbers have a property, one number further on
use Rattle.std.proofs.Common.{◌≡◌, ℕ, zero, suc, ◌<◌, ◌≤◌, ◌⊎◌, inl, inr, Option, Some, None, subst, arith}
use Rattle.monk_judge.{specs.Among.AreMany, specs.Among.NamesFirst, proofs.Among.SameBelow}

-- ---- counting

pub many_same : (P Q : ℕ → Type 0) (n many : ℕ) → SameBelow P Q n → AreMany P n many → AreMany Q n many
many_same P Q zero many same h = h
many_same P Q (suc n) zero same h =
    (λ q. h.0 ((same n (omega arith)).1 q), many_same P Q n 0 (λ k lt. same k (omega arith)) h.1)
many_same P Q (suc n) (suc many) same h =
    elim h as (λ z. AreMany Q (suc n) (suc many)) [
      | inl it ↦ inl ((same n (omega arith)).0 it.0, many_same P Q n many (λ k lt. same k (omega arith)) it.1)
      | inr other ↦ inr
          (λ q. other.0 ((same n (omega arith)).1 q), many_same P Q n (suc many) (λ k lt. same k (omega arith)) other.1)
    ]

pub many_skip : (P : ℕ → Type 0) (n many : ℕ) → (P n → ⊥) → AreMany P n many → AreMany P (suc n) many
many_skip P n zero nope h = (nope, h)
many_skip P n (suc many) nope h = inr (nope, h)

at_or_below : (f n : ℕ) → f < suc n → (f ≡ n) ⊎ (f < n)
at_or_below f n lt = grind arith

many_less : (P : ℕ → Type 0) (n many : ℕ) → (P n → ⊥) → AreMany P (suc n) many → AreMany P n many
many_less P n zero nope h = h.1
many_less P n (suc many) nope h = elim h as (λ z. AreMany P n (suc many))
    [ inl it ↦ absurd (nope it.0) | inr other ↦ other.1 ]

below_same : (P Q : ℕ → Type 0) (n f : ℕ) → f ≡ n
    → ((k : ℕ) → k < suc n → (k ≡ f → ⊥) → (P k → Q k) × (Q k → P k)) → SameBelow P Q n
below_same P Q n f here same k less = same k (omega arith) (λ e. absurd (omega arith))

-- one more number has the property than before
pub many_one : (P Q : ℕ → Type 0) (n many f : ℕ) → f < n → ((k : ℕ) → k < n → (k ≡ f → ⊥) → (P k → Q k) × (Q k → P k))
    → (P f → ⊥) → Q f → AreMany P n many → AreMany Q n (suc many)
many_one P Q zero many f lt same nope now h = absurd (omega arith)
many_one P Q (suc n) zero f lt same nope now h =
    elim (at_or_below f n lt) as (λ z. AreMany Q (suc n) 1) [
      | inl here ↦ inl (subst Q here now, many_same P Q n 0 (below_same P Q n f here same) h.1)
      | inr less ↦ inr (
        λ q. h.0 ((same n (omega arith) (λ e. absurd (omega arith))).1 q),
        many_one P Q n 0 f less (λ k lt. same k (omega arith)) nope now h.1,
      )
    ]
many_one P Q (suc n) (suc many) f lt same nope now h =
    elim (at_or_below f n lt) as (λ z. AreMany Q (suc n) (suc (suc many))) [
      | inl here ↦ inl (
        subst Q here now,
        many_same P Q n (suc many) (below_same P Q n f here same)
            (many_less P n (suc many) (subst (λ k. P k → ⊥) here nope) h),
      )
      | inr less ↦ elim h as (λ z. AreMany Q (suc n) (suc (suc many))) [
        | inl it ↦ inl (
          (same n (omega arith) (λ e. absurd (omega arith))).0 it.0,
          many_one P Q n many f less (λ k lt. same k (omega arith)) nope now it.1,
        )
        | inr other ↦ inr (
          λ q. other.0 ((same n (omega arith) (λ e. absurd (omega arith))).1 q),
          many_one P Q n (suc many) f less (λ k lt. same k (omega arith)) nope now other.1,
        )
      ]
    ]

pub first_same : (P Q : ℕ → Type 0) (n : ℕ) (found : Option ℕ) → SameBelow P Q n → NamesFirst P n found
    → NamesFirst Q n found
first_same P Q n None same h = λ k lt q. h k lt ((same k lt).1 q)
first_same P Q n (Some f) same h =
    (h.0, (same f h.0).0 h.1, λ j less q. let lt : j < n = omega (arith, h.0) in h.2 j less ((same j lt).1 q))

-- ---- who comes back

pub many_within : (P : ℕ → Type 0) (n many : ℕ) → AreMany P n many → many ≤ n
many_within P zero many h = omega arith
many_within P (suc n) zero h = omega arith
many_within P (suc n) (suc many) h = elim h as (λ z. suc many ≤ suc n) [
  | inl it ↦ let a = many_within P n many it.1 in omega arith
  | inr other ↦ let a = many_within P n (suc many) other.1 in omega arith
]

pub same_self : (P : ℕ → Type 0) (n : ℕ) → SameBelow P P n
same_self P n k lt = (λ h. h, λ h. h)
