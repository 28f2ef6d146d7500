-- The value of something that holds other data is the value of those data
use Rattle.std.proofs.Common.{◌≡◌, Option, Some, None, option_map, refl, arith}
use Rattle.std.proofs.lemmas.{Simd.map-map, Bool.Decides.nat_tests}
use Rattle.monk_tell.specs.{declared.queues.Conditions.Conditions, Told.condition_lists}
use Rattle.serde_json.specs.Data.{Data}
use Rattle.monk_page.specs.Json.{list_json, numbers_json, option_json}

-- the value of an option is the value of what it holds
pub option_told : {X Y : Type 0} (f : Y → Data) (g : X → Y) (o : Option X)
    → option_json (λ x. f (g x)) o ≡ option_json f (option_map g o)
option_told f g None = refl
option_told f g (Some x) = refl

-- the value of the conditions is the value of their seats
pub conditions_told : (c : Conditions) → list_json (λ s. numbers_json s.0.items) c.0.items
    ≡ list_json numbers_json (condition_lists c)
conditions_told c = grind (arith, nat_tests, map-map)
