-- What a list that prints itself has written, with one more item
use Rattle.std.proofs.Common.{◌≡◌, ℕ, ◌+◌, ◌<◌, List, [], ◌∷◌, ◌++◌, length, take, get_or, sym, ap, ◌∙◌}
use Rattle.std.proofs.{Common.append_assoc, lemmas.List.append-nil, lemmas.List.take_more}
use Rattle.std.specs.List.{flat_map}

one_more : {X : Type 0} (f : X → List ℕ) (xs : List X) (x : X) → flat_map f (xs ++ x ∷ []) ≡ flat_map f xs ++ f x
one_more f [] x = append-nil (f x)
one_more f (y ∷ xs) x = ap (λ (l : List ℕ). f y ++ l) (one_more f xs x) ∙ sym (append_assoc (f y) (flat_map f xs) (f x))

-- the text of the items up to a place and of the one there
pub printed_more : {X : Type 0} (f : X → List ℕ) (xs : List X) (i : ℕ) (d : X) → i < length xs
    → flat_map f (take i xs) ++ f (get_or xs i d) ≡ flat_map f (take (i + 1) xs)
printed_more {X = X} f xs i d there =
    sym (ap (λ (ys : List X). flat_map f ys) (take_more xs i d there) ∙ one_more f (take i xs) (get_or xs i d))
