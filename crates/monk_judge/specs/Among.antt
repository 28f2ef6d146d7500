-- Which of the first numbers have a property, and how many
use Rattle.std.specs.Prelude.{◌≡◌, ℕ, zero, suc, ◌<◌, ◌⊎◌, Bool, true, false, Option, MatchOption}

-- it names the first of the numbers below `n` that has the property, or nothing if none has
abbrev pub NamesFirst : (ℕ → Type 0) → ℕ → Option ℕ → Type 0
NamesFirst P n found = MatchOption found ((k : ℕ) → k < n → P k → ⊥)
    (λ k. (k < n) × P k × ((j : ℕ) → j < k → P j → ⊥))

-- it names the last of the numbers below `n` that has the property
abbrev pub NamesLast : (ℕ → Type 0) → ℕ → Option ℕ → Type 0
NamesLast P n found = MatchOption found ((k : ℕ) → k < n → P k → ⊥)
    (λ k. (k < n) × P k × ((j : ℕ) → k < j → j < n → P j → ⊥))

-- the answer says whether it holds
abbrev pub Decides : Bool → Type 0 → Type 0
Decides true A = A
Decides false A = A → ⊥

-- exactly this many of the first numbers have the property
abbrev pub AreMany : (ℕ → Type 0) → ℕ → ℕ → Type 0
AreMany P zero many = many ≡ 0
AreMany P (suc n) zero = (P n → ⊥) × AreMany P n 0
AreMany P (suc n) (suc many) = (P n × AreMany P n many) ⊎ ((P n → ⊥) × AreMany P n (suc many))
