-- The thread that comes back first, seat by seat
use Rattle.std.proofs.Common.{◌≡◌, ◌⊎◌, ℕ, ◌+◌, ◌≤◌, Option, Some, None, length, get_or, arith}
use Rattle.monk_judge.proofs.{Sleepers.sleeps_within}
use Rattle.monk_judge.specs.Shown.{IsEarliest, IsFirstBelow, ResumesNoLater, Shown}
use Rattle.monk_judge.specs.declared.place.Place.TheVariants.{Outside, Waiting}
use Rattle.std.proofs.lemmas.Bool.Decides.{nat_tests}

-- the seat doesn't sleep there
pub first_skip : (n : ℕ) (v : Shown) (c : ℕ) (first : Option ℕ) → IsFirstBelow n v c first
    → (get_or v.places n Outside ≡ Waiting c → ⊥) → IsFirstBelow (n + 1) v c first
first_skip n v c first was awake = grind (arith, nat_tests)

-- it is the first that sleeps there
pub first_alone : (n : ℕ) (v : Shown) (c : ℕ) → IsFirstBelow n v c None → get_or v.places n Outside ≡ Waiting c
    → IsFirstBelow (n + 1) v c (Some n)
first_alone n v c was is = grind (arith, nat_tests)

-- the earlier one of the first below it and itself, itself only if it is earlier
pub first_on : (n : ℕ) (v : Shown) (c one result : ℕ) → IsFirstBelow n v c (Some one)
    → get_or v.places n Outside ≡ Waiting c
    → (result ≡ one) ⊎ (result ≡ n) → ResumesNoLater v result one × ResumesNoLater v result n
    → (result ≡ one) ⊎ (ResumesNoLater v one result → ⊥) → IsFirstBelow (n + 1) v c (Some result)
first_on n v c one result was is which first strict = grind (arith, nat_tests)

-- past the last seat
pub first_all : (n : ℕ) (v : Shown) (c : ℕ) (first : Option ℕ) → length v.places ≤ n → IsFirstBelow n v c first
    → IsEarliest v c first
first_all n v c first all was = grind (arith, nat_tests, sleeps_within)
