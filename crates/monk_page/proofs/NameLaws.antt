-- The names in a list of JSON values
use Rattle.std.proofs.Common.{◌≡◌, ap, List, [], ◌∷◌, ℕ, Option, Some, map, refl, arith}
use Rattle.std.{specs.Prelude.unwrap_or, proofs.lemmas.Bool.Decides.nat_tests}
use Rattle.serde_json.specs.{Find.as_str, declared.value.Value.Value, Data.Items, Data.no_items}
use Rattle.serde_json.specs.View.{items_view, view}
use Rattle.monk_page.specs.Told.{texts_of}

-- the name that a value has
abbrev pub text_in : Value → List ℕ
text_in v = unwrap_or (as_str (view v)) []

-- the texts of a list are the texts of its values
pub texts_viewed : (vs : List Value) → texts_of (items_view vs) ≡ map text_in vs
texts_viewed [] = refl
texts_viewed (v ∷ vs) = ap (λ rest. text_in v ∷ rest) (texts_viewed vs)

-- the names in a list that is there
pub names_there : (vs : List Value) (found : Option Items) → Some (items_view vs) ≡ found
    → map text_in vs ≡ texts_of (unwrap_or found no_items)
names_there vs found is = grind (arith, nat_tests, texts_viewed)
