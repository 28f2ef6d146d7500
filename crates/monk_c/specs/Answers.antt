-- What an export answers
use Rattle.std.specs.Prelude.{ℤ, pos, negsuc}
use Rattle.monk_c.specs.Stands.{At, At.Outside, At.Waiting, At.Inside}
use Rattle.monk_c.specs.declared.refusal.Refusal.{Refusal}
use Rattle.monk_c.specs.declared.refusal.Refusal.TheVariants.{NotNow, Spent, NotOfKind, Range, Memory, Closed}

-- `negsuc n` is -(n + 1)
abbrev pub refusal_number : Refusal → ℤ
refusal_number NotNow = negsuc 0
refusal_number Spent = negsuc 1
refusal_number NotOfKind = negsuc 2
refusal_number Range = negsuc 3
refusal_number Memory = negsuc 4
refusal_number Closed = negsuc 9

-- the number for C of where a seat is
abbrev pub place_number : At → ℤ
place_number (Outside p) = pos 1
place_number (Waiting p) = pos 2
place_number (Inside a) = pos 3
