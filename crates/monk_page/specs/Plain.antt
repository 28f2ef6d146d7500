-- Texts that markup shows unchanged
use Rattle.std.specs.Prelude.{ℕ, ◌==◌, Bool, not, ◌&&◌, List, nat_le}
use Rattle.std.specs.List.{list_all}

-- a byte that markup shows unchanged: no control character, and none of & < >
abbrev pub is_plain_byte : ℕ → Bool
is_plain_byte b = nat_le 32 b && not (b == 38) && not (b == 60) && not (b == 62)

-- a text of such bytes
abbrev pub is_plain_text : List ℕ → Bool
is_plain_text bytes = list_all is_plain_byte bytes
