-- A value that is found by its word has that word.
use Rattle.std.proofs.Common.{arith, ◌≡◌, ◌↔◌, ℕ, Bool, true, false, cond, List, [], ◌∷◌, Option, Some, refl, ap, ◌∙◌}
use Rattle.std.{specs.Str.bytes_eq, proofs.lemmas.Slice.Eq.bytes_eq-Decides}
use Rattle.monk_kinds.specs.{Names.kind_word, Names.kinds, Names.with_text, declared.name.KindName.KindName}

pub some_is : {A : Type 0} (a b : A) → Option.Some a ≡ Some b → a ≡ b
some_is a b e = cc

test_found : {A : Type 0} (b : Bool) (w : List ℕ) (v x : A) (rest : Option A) (word : A → List ℕ)
    → (b ≡ true → w ≡ word v) → (rest ≡ Some x → w ≡ word x) → cond b (Some v) rest ≡ Some x → w ≡ word x
test_found true w v x rest word same other e = same refl ∙ ap word (some_is v x e)
test_found false w v x rest word same other e = other e

pub found_is : {A : Type 0} (word : A → List ℕ) (values : List A) (w : List ℕ) (x : A)
    → with_text word values w ≡ Some x → w ≡ word x
found_is word [] w x e = absurd cc
found_is word (v ∷ vs) w x e =
    test_found (bytes_eq w (word v)) w v x (with_text word vs w) word (λ b. (bytes_eq-Decides w (word v)).0 b)
    (found_is word vs w x) e

pub kind_again : (k : KindName) → with_text kind_word kinds (kind_word k) ≡ Some k
kind_again k = grind (arith)

pub kind_exact : (w : List ℕ) (k : KindName) → (with_text kind_word kinds w ≡ Some k) ↔ (w ≡ kind_word k)
kind_exact w k = (found_is kind_word kinds w k, λ e. ap (with_text kind_word kinds) e ∙ kind_again k)
