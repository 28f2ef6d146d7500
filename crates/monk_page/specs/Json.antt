-- Numbers, lists and what may be missing, in JSON
use Rattle.std.specs.Prelude.{ℕ, List, [], ◌∷◌, map, Option}
use Rattle.std.specs.Option.{option_map_or}
use Rattle.serde_json.specs.{Data.Data, Data.null, Data.number, Data.unsigned, Data.array, View.items_of}

-- a whole number
abbrev pub number_json : ℕ → Data
number_json n = number (unsigned n)

-- the JSON of each, in order
abbrev pub list_json : {X : Type 0} → (X → Data) → List X → Data
list_json each xs = array (items_of (map each xs))

-- null if there is none
abbrev pub option_json : {X : Type 0} → (X → Data) → Option X → Data
option_json some o = option_map_or some o null

-- whole numbers, in order
abbrev pub numbers_json : List ℕ → Data
numbers_json ns = list_json number_json ns

-- an array of two
abbrev pub pair_json : Data → Data → Data
pair_json a b = array (items_of (a ∷ b ∷ []))
