-- A function of a seat's (or a place's) number, changed at one number
use Rattle.std.specs.Prelude.{ℕ, ◌==◌, if◌then◌else◌}

-- the same function, except at i
unfoldable pub update : {X : Type 0} → (ℕ → X) → ℕ → X → ℕ → X
update at i x j = if j == i then x else at j
