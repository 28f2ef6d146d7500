-- What a list of operations does to an object
use Rattle.std.specs.Prelude.{ℕ, ◌==◌, Bool, ◌&&◌, nat_lt, List, [], ◌∷◌, count_by}
use Rattle.std.specs.List.{fold}
use Rattle.monk_object.specs.{Object.Object, declared.op.Op.Op}

-- an operation with the reply to it
pub record Answered : Type 0 where
  pub op : Op
  pub reply : ℕ

-- the state after the operations, from a first state
abbrev pub state_after : Object → List ℕ → List Op → List ℕ
state_after o state ops = fold o.after state ops

-- the operations with their replies, from a first state
abbrev pub answers_of : Object → List ℕ → List Op → List Answered
answers_of o state [] = []
answers_of o state (op ∷ ops) = record { op = op; reply = o.reply state op } ∷ answers_of o (o.after state op) ops

-- the operation has that code and was done
abbrev pub is_done : ℕ → Answered → Bool
is_done code act = act.op.code == code && nat_lt 0 act.reply

-- how many operations of that code were done
abbrev pub times_done : ℕ → List Answered → ℕ
times_done code acts = count_by (is_done code) acts

-- the object refused the operation, so it is unchanged (`KeepsWhatItRefuses`)
abbrev pub is_refused : Answered → Bool
is_refused act = act.reply == 0
