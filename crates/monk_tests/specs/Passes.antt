-- What the tests know of their passes
use Rattle.std.specs.Prelude.{◌≡◌, List, All}
use Rattle.atomic_table.specs.Seated.{TableId}
use Rattle.monk_hall.specs.Tokens.{Token}

-- a token of this hall, which has three conditions
abbrev pub IsSeat : TableId → Token → Type 0
IsSeat z p = (p.hall ≡ z) × (p.me.setting.conds ≡ 3)

-- each of those passes is a seat of that table
abbrev pub AreSeats : TableId → List Token → Type 0
AreSeats z ps = All (IsSeat z) ps
