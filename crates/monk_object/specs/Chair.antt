-- The numbers of a shop's chair
use Rattle.std.specs.Prelude.{ℕ}
use Rattle.monk_object.specs.declared.shop.Chair.{Chair, TheVariants.Empty, TheVariants.InUse, TheVariants.Done}

-- the number of the barber's chair in the state
abbrev pub chair_number : Chair → ℕ
chair_number Empty = 0
chair_number InUse = 1
chair_number Done = 2
