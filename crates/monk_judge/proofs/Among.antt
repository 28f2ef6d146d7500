-- The first and the last number that has a property, one number further on
use Rattle.std.proofs.Common.{◌≡◌, ℕ, ◌+◌, ◌<◌, ◌⊎◌, inl, inr, Option, Some, None, refl, subst, arith}
use Rattle.monk_judge.specs.Among.{NamesFirst, NamesLast}

pub here_or_below : (k n : ℕ) → k < n + 1 → (k ≡ n) ⊎ (k < n)
here_or_below k n lt = grind arith

-- for the numbers below n both properties say the same
abbrev pub SameBelow : (ℕ → Type 0) → (ℕ → Type 0) → ℕ → Type 0
SameBelow P Q n = (k : ℕ) → k < n → (P k → Q k) × (Q k → P k)

none_next : (P Q : ℕ → Type 0) (n : ℕ) → SameBelow P Q n → (Q n → ⊥) → (j : ℕ) → j < n + 1 → Q j
    → ((k : ℕ) → k < n → P k → (j ≡ k) → ⊥) → ⊥
none_next P Q n same nope j lt q h =
    elim (here_or_below j n lt) as (λ z. ⊥)
    [ inl last ↦ nope (subst Q last q) | inr less ↦ h j less ((same j less).1 q) (λ i. j) ]

pub last_skip : (P Q : ℕ → Type 0) (n : ℕ) (found : Option ℕ) → SameBelow P Q n → (Q n → ⊥) → NamesLast P n found
    → NamesLast Q (n + 1) found
last_skip P Q n None same nope h = λ j lt q. none_next P Q n same nope j lt q (λ k less p is. h k less p)
last_skip P Q n (Some f) same nope h = (
  omega (arith, h.0),
  (same f h.0).0 h.1,
  λ j gt lt q. none_next P Q n same nope j lt q (λ k less p is. h.2 k (subst (λ z. f < z) is gt) less p),
)

pub last_here : (Q : ℕ → Type 0) (n : ℕ) → Q n → NamesLast Q (n + 1) (Some n)
last_here Q n q = (omega arith, q, λ j gt lt k. absurd (omega arith))

pub first_skip : (P Q : ℕ → Type 0) (n : ℕ) (found : Option ℕ) → SameBelow P Q n → (found ≡ None → Q n → ⊥)
    → NamesFirst P n found → NamesFirst Q (n + 1) found
first_skip P Q n None same nope h = λ j lt q. none_next P Q n same (nope refl) j lt q (λ k less p is. h k less p)
first_skip P Q n (Some f) same nope h = (
  omega (arith, h.0),
  (same f h.0).0 h.1,
  λ j less q. let lt : j < n = omega (arith, h.0) in h.2 j less ((same j lt).1 q),
)

pub first_here : (P Q : ℕ → Type 0) (n : ℕ) → SameBelow P Q n → Q n → NamesFirst P n None
    → NamesFirst Q (n + 1) (Some n)
first_here P Q n same q h = (omega arith, q, λ j less k. h j less ((same j less).1 k))
