-- The two lines that name an ordering of three priorities
use Rattle.std.specs.Prelude.{ℕ, List, ◌++◌, Option, Some, None, codes}
use Rattle.monk_kinds.specs.{Names.kind_word, declared.name.KindName.KindName, declared.ordering.Ordering13.Ordering13}
use Rattle.monk_kinds.specs.Orderings.{ordering_text, ordering_kind}

-- the kind of monitor, or that there is none
abbrev pub kind_or_rejected : Option KindName → List ℕ
kind_or_rejected (Some k) = kind_word k
kind_or_rejected None = codes "rejected"

-- the lines of an ordering: its form, and its kind
abbrev pub ordering_lines : Ordering13 → List ℕ
ordering_lines o = ordering_text o ++ codes "\n" ++ kind_or_rejected (ordering_kind o) ++ codes "\n"
