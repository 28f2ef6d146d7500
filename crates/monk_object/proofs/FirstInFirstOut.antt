-- A buffer is first in, first out
use Rattle.std.proofs.Common.{◌≡◌, ℕ, ◌+◌, ◌-◌, ◌<◌, ◌≤◌, ◌==◌, Bool, true, false, ◌&&◌, cond, List, [], ◌∷◌, ◌++◌}
use Rattle.std.proofs.lemmas.{Bool.eqb-true, Bool.ne_eqb, Bool.lt-ltb, Bool.Decides.nat_tests, List.append-nil}
use Rattle.std.proofs.Common.{length, drop, map, refl, arith, append_assoc, length-append}
use Rattle.std.specs.Prelude.{nat_lt}
use Rattle.monk_object.specs.{Runs.Answered, Runs.state_after, Runs.answers_of, declared.op.Op.Op}
use Rattle.monk_object.specs.Laws.{IsFirstInFirstOut, items_put, items_taken}
use Rattle.monk_object.specs.Buffer.{PUT, TAKE, buffer_meaning, items_after, items_reply, take_reply}

-- from tests for a put, a take and room: the reply, the items after, and the items put and taken
abbrev reply_by : Bool → Bool → Bool → List ℕ → ℕ
reply_by put take room items = cond put (cond room 1 0) (cond take (take_reply items) 0)

abbrev after_by : Bool → Bool → Bool → List ℕ → ℕ → List ℕ
after_by put take room items arg = cond put (cond room (items ++ arg ∷ []) items) (cond take (drop 1 items) items)

abbrev put_by : Bool → ℕ → ℕ → List ℕ
put_by put reply arg = cond (put && nat_lt 0 reply) (arg ∷ []) []

abbrev taken_by : Bool → ℕ → List ℕ
taken_by take reply = cond (take && nat_lt 0 reply) ((reply - 1) ∷ []) []

step_by : (put take room : Bool) (items : List ℕ) (arg : ℕ) → (put ≡ true → take ≡ false)
    → items ++ put_by put (reply_by put take room items) arg ≡ taken_by take (reply_by put take room items)
    ++ after_by put take room items arg
step_by put take room items arg one = grind (arith, nat_tests, append-nil, lt-ltb)

fits_by : (size : ℕ) (put take room : Bool) (items : List ℕ) (arg : ℕ) → length items ≤ size
    → (room ≡ true → length items < size)
    → length (after_by put take room items arg) ≤ size
fits_by size put take room items arg fits less = grind (arith, nat_tests, length-append)

-- a list with one more operation in front
mapped : (f : Answered → ℕ) (b : Bool) (act : Answered) (acts : List Answered)
    → map f (cond b (act ∷ acts) acts) ≡ cond b (f act ∷ []) [] ++ map f acts
mapped f b act acts = grind (arith, nat_tests)

not_both : (code : ℕ) → (code == PUT) ≡ true → (code == TAKE) ≡ false
not_both code e = ne_eqb code TAKE (λ h. let z : code ≡ 0 = eqb-true code 0 e in omega arith)

-- from a state with some items
record Run (size : ℕ) (items : List ℕ) (ops : List Op) : Type 0 where
  left : List ℕ
  state : state_after buffer_meaning (size ∷ items) ops ≡ size ∷ left
  in_order : items ++ items_put (answers_of buffer_meaning (size ∷ items) ops) ≡ items_taken
      (answers_of buffer_meaning (size ∷ items) ops) ++ left
  within : length left ≤ size

run : (size : ℕ) (items : List ℕ) (ops : List Op) → length items ≤ size → Run size items ops
run size items [] fits = record { left = items; state = refl; in_order = append-nil items; within = fits }
run size items (op ∷ ops) fits =
    let put = op.code == PUT in
    let take = op.code == TAKE in
    let room = nat_lt (length items) size in
    let reply = items_reply size items op in
    let next = items_after size items op in
    let rest = run size next ops (fits_by size put take room items op.arg fits (λ h. grind (arith, h))) in
    let act : Answered = record { op = op; reply = reply } in
    let acts = answers_of buffer_meaning (size ∷ next) ops in
    grind (arith, nat_tests, mapped, append_assoc, step_by, not_both)

pub first_in_first_out : (size : ℕ) (ops : List Op) → IsFirstInFirstOut size ops
first_in_first_out size ops =
    let r = run size [] ops (omega arith) in
    record { items = r.left; state = r.state; in_order = r.in_order; within = r.within }
