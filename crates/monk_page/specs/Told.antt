-- The names in a text that is put beside a history
use Rattle.std.specs.Prelude.{◌≡◌, ℕ, List, [], ◌∷◌, Some, map, option_and_then, codes, string_bytes, unwrap_or}
use Rattle.serde_json.specs.{Find.as_array, Find.as_str, Find.get, Read.read}
use Rattle.serde_json.specs.Data.{Data, Items, item, no_items}
use Rattle.monk_page.specs.declared.told.ToldNames.{ToldNames}

-- the texts of a list; an item that is no text counts as an empty one
abbrev pub texts_of : Items → List (List ℕ)
texts_of no_items = []
texts_of (item d ds) = unwrap_or (as_str d) [] ∷ texts_of ds

-- the names in the list of the member with that name, or none if there is no such list
abbrev pub names_in : List ℕ → Data → List (List ℕ)
names_in name d = texts_of (unwrap_or (option_and_then as_array (get name d)) no_items)

-- the text has these names of seats and of conditions
pub record AreNames (text : List ℕ) (names : ToldNames) : Type 0 where
  pub told : Data
  pub is : read text ≡ Some told
  pub seats : map string_bytes names.seats.items ≡ names_in (codes "seats") told
  pub conditions : map string_bytes names.conditions.items ≡ names_in (codes "conditions") told
