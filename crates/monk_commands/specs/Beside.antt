-- The file that a recorder writes beside a log
use Rattle.std.specs.Prelude.{ℕ, ◌==◌, Bool, List, codes}
use Rattle.std.specs.{List.list_any, List.slice_split, Str.bytes_eq}

-- its rows
abbrev pub rows_of : List ℕ → List (List ℕ)
rows_of bs = slice_split (λ b. b == 10) bs

-- whether one of its rows says that the program ended by itself
abbrev pub says_ended : List ℕ → Bool
says_ended bs = list_any (λ row. bytes_eq row (codes "ended by itself")) (rows_of bs)
