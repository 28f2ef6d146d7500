-- What is at a place of some bytes
use Rattle.std.specs.Prelude.{◌≡◌, ℕ, ◌≤◌, List, ◌++◌, length, drop}

-- the bytes `front` are at the place, and `behind` is the place after them
pub record StandsAt (bytes : List ℕ) (place : ℕ) (front : List ℕ) (behind : ℕ) : Type 0 where
  pub is : drop place bytes ≡ front ++ drop behind bytes
  pub within : behind ≤ length bytes
