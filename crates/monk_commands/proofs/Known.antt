-- What holds for the bytes that were read holds for what a reader had, if that is known.
use Rattle.std.proofs.Common.{◌≡◌, ℕ, List, Option, Some, None, subst}
use Rattle.std.specs.Prelude.{IfSome}

pub on_known : (known : Option (List ℕ)) (bytes : List ℕ) (F : List ℕ → Type 0)
    → IfSome known (λ input. bytes ≡ input) → F bytes → IfSome known F
on_known None bytes F same x = tt
on_known (Some input) bytes F same x = subst F same x
