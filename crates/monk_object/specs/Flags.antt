-- Flags that are set all at once: their state is the size, which is how many there are, and the bits
use Rattle.std.specs.Prelude.{ℕ, ◌^◌, ◌==◌, nat_lt, Bool, false, ◌&&◌, List, [], ◌∷◌, if◌then◌else◌}
use Rattle.std.specs.Int.{bit_at}
use Rattle.monk_object.specs.{Object.Object, declared.op.Op.Op}

-- the code
abbrev pub SET : ℕ
SET = 0

-- whether an operation is done: there is a flag for each bit
abbrev pub flags_serves : ℕ → Op → Bool
flags_serves size op = op.code == SET && nat_lt op.arg (2 ^ size)

-- the state after an operation; it stays if the operation can't be done
abbrev pub flags_after : List ℕ → Op → List ℕ
flags_after [] op = []
flags_after (size ∷ []) op = size ∷ []
flags_after (size ∷ bits ∷ more) op = if flags_serves size op then size ∷ op.arg ∷ [] else size ∷ bits ∷ more

-- 1 if the flags are set, and else 0
abbrev pub flags_reply : List ℕ → Op → ℕ
flags_reply [] op = 0
flags_reply (size ∷ []) op = 0
flags_reply (size ∷ bits ∷ more) op = if flags_serves size op then 1 else 0

-- predicate p: bit p is set
abbrev pub flags_holds : List ℕ → ℕ → Bool
flags_holds [] pred = false
flags_holds (size ∷ []) pred = false
flags_holds (size ∷ bits ∷ more) pred = bit_at bits pred == 1

-- what flags are: their operation and their predicates
abbrev pub flags_meaning : Object
flags_meaning = record { codes = 1; predicates = 32; after = flags_after; reply = flags_reply; holds = flags_holds }
