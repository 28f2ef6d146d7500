use Rattle.std.proofs.Common.{◌≡◌, map, take, string_bytes}
use Rattle.monk_page.proofs.NameLaws.{text_in}
use Rattle.monk_page.proofs.told.names_at.Given as goal

-- the names so far
abbrev pub invariant-loop-name : goal.invariant-loop-name
invariant-loop-name l = map string_bytes l.names.items ≡ map text_in (take l.name-index l.name-items)
