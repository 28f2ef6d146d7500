-- The bits of flags are those of the last set that was done
use Rattle.std.proofs.Common.{◌≡◌, ℕ, ◌^◌, ◌<◌, ◌==◌, Bool, true, false, ◌&&◌, cond, List, [], ◌∷◌, ◌++◌, arith}
use Rattle.std.{proofs.Common.map, proofs.Common.refl, proofs.Common.ap, proofs.Common.pow_pos}
use Rattle.std.{proofs.lemmas.Bool.ltb-true, proofs.lemmas.Bool.Decides.nat_tests, specs.Prelude.nat_lt}
use Rattle.monk_object.{specs.Flags.SET, specs.Flags.flags_meaning, specs.Flags.flags_after, specs.Flags.flags_reply}
use Rattle.monk_object.{specs.Laws.HoldsTheLastSet, specs.Laws.bits_set, specs.Runs.Answered, specs.Runs.state_after}
use Rattle.monk_object.{specs.Runs.answers_of, specs.declared.op.Op.Op, proofs.Codes.both}

-- from a state with these bits
record Run (size bits : ℕ) (start : List ℕ) (ops : List Op) : Type 0 where
  last : ℕ
  earlier : List ℕ
  state : state_after flags_meaning start ops ≡ size ∷ last ∷ []
  in_order : bits ∷ bits_set (answers_of flags_meaning start ops) ≡ earlier ++ last ∷ []
  within : last < 2 ^ size

-- one more operation in front, if it is known whether it is a set and whether the bits fit
abbrev set_by : Bool → Bool → ℕ → List ℕ
set_by code fits arg = cond (code && nat_lt 0 (cond (code && fits) 1 0)) (arg ∷ []) []

abbrev bits_by : Bool → ℕ → ℕ → ℕ
bits_by served arg bits = cond served arg bits

front : (b : Bool) (act : Answered) (acts : List Answered)
    → map (λ a. a.op.arg) (cond b (act ∷ acts) acts) ≡ cond b (act.op.arg ∷ []) [] ++ map (λ a. a.op.arg) acts
front b act acts = grind (arith, nat_tests)

next_state : (served : Bool) (size bits arg : ℕ)
    → cond served (size ∷ arg ∷ []) (size ∷ bits ∷ []) ≡ size ∷ bits_by served arg bits ∷ []
next_state served size bits arg = grind (arith, nat_tests)

next_within : (served : Bool) (size bits arg : ℕ) → bits < 2 ^ size → (served ≡ true → arg < 2 ^ size)
    → bits_by served arg bits < 2 ^ size
next_within served size bits arg within less = grind (arith, nat_tests)

-- the bits before, those set by the operation and those set later
record Goes (bits : ℕ) (set later : List ℕ) (last : ℕ) : Type 0 where
  earlier : List ℕ
  in_order : bits ∷ set ++ later ≡ earlier ++ last ∷ []

goes : (code fits : Bool) (bits arg : ℕ) (later earlier : List ℕ) (last : ℕ)
    → bits_by (code && fits) arg bits ∷ later ≡ earlier ++ last ∷ [] → Goes bits (set_by code fits arg) later last
goes true true bits arg later earlier last e = record { earlier = bits ∷ earlier; in_order = ap (λ xs. bits ∷ xs) e }
goes true false bits arg later earlier last e = record { earlier = earlier; in_order = e }
goes false fits bits arg later earlier last e = record { earlier = earlier; in_order = e }

run : (size bits : ℕ) → bits < 2 ^ size → (ops : List Op) → Run size bits (size ∷ bits ∷ []) ops
run size bits within [] = record { last = bits; earlier = []; state = refl; in_order = refl; within = within }
run size bits within (op ∷ ops) =
    let code = op.code == SET in
    let fits = nat_lt op.arg (2 ^ size) in
    let next = bits_by (code && fits) op.arg bits in
    let start : flags_after (size ∷ bits ∷ []) op ≡ size ∷ next ∷ [] = next_state (code && fits) size bits op.arg in
    let rest =
    run size next (next_within (code && fits) size bits op.arg within
    (λ e. ltb-true _ _ (both code fits e).1)) ops in
    let act : Answered = record { op = op; reply = flags_reply (size ∷ bits ∷ []) op } in
    let acts = answers_of flags_meaning (size ∷ next ∷ []) ops in
    let g = goes code fits bits op.arg (bits_set acts) rest.earlier rest.last rest.in_order in
    grind (arith, nat_tests, front)

pub last_set : (size : ℕ) (ops : List Op) → HoldsTheLastSet size ops
last_set size ops =
    let r = run size 0 (pow_pos size) ops in
    record { bits = r.last; earlier = r.earlier; state = r.state; in_order = r.in_order; within = r.within }
