-- What a loop that prints has written after one more item
use Rattle.std.proofs.Common.{◌≡◌, ℕ, ◌+◌, ◌<◌, Bool, cond, suc, List, [], ◌∷◌, ◌++◌, length, take, get_or}
use Rattle.std.proofs.Common.{sym, ap, arith, ◌∙◌, append_assoc}
use Rattle.std.specs.Prelude.{◌==◌, codes}
use Rattle.std.proofs.lemmas.{List.append-nil, List.take_more, Bool.Decides.nat_tests}
use Rattle.std.specs.{Fmt.decimal, Int.bit_at, List.flat_map}
use Rattle.monk_object.specs.InWords.{bits_below}

one_more : {X : Type 0} (f : X → List ℕ) (xs : List X) (x : X) → flat_map f (xs ++ x ∷ []) ≡ flat_map f xs ++ f x
one_more f [] x = append-nil (f x)
one_more f (y ∷ xs) x = ap (λ (l : List ℕ). f y ++ l) (one_more f xs x) ∙ sym (append_assoc (f y) (flat_map f xs) (f x))

-- the items up to a place, and the one there
pub printed_more : {X : Type 0} (f : X → List ℕ) (xs : List X) (i : ℕ) (d : X) → i < length xs
    → flat_map f (take i xs) ++ f (get_or xs i d) ≡ flat_map f (take (i + 1) xs)
printed_more {X = X} f xs i d there =
    sym (ap (λ (ys : List X). flat_map f ys) (take_more xs i d there) ∙ one_more f (take i xs) (get_or xs i d))

bits_next : (bits i : ℕ) (b : Bool) → (bit_at bits i == 1) ≡ b
    → bits_below bits (suc i) ≡ bits_below bits i ++ cond b (codes " " ++ decimal i) []
unfolding bits_below
bits_next bits i b is = ap (λ (c : Bool). bits_below bits i ++ cond c (codes " " ++ decimal i) []) is

-- the bits below a place, and the one there
pub bits_more : (bits i : ℕ) (b : Bool) → (bit_at bits i == 1) ≡ b
    → bits_below bits (i + 1) ≡ bits_below bits i ++ cond b (codes " " ++ decimal i) []
bits_more bits i b is = grind (arith, nat_tests, ℕ, cond, bits_next)
