-- Cases of an operation's code, and what one operation adds to a count
use Rattle.std.proofs.Common.{◌≡◌, ℕ, suc, zero, ◌+◌, ◌==◌, Bool, true, false, ◌&&◌, cond, List, ◌∷◌, arith}
use Rattle.std.proofs.{lemmas.Bool.ne_eqb, lemmas.Bool.Decides.nat_tests, lemmas.List.Sums.sum_by-cons, Common.rules}
use Rattle.std.specs.Prelude.{nat_lt}
use Rattle.monk_object.specs.Runs.{Answered, is_done, times_done}

pub both : (a b : Bool) → (a && b) ≡ true → (a ≡ true) × (b ≡ true)
both a b e = grind (arith, nat_tests)

pub by_code : (P : ℕ → Type 0) → P 0 → P 1 → P 2 → P 3
    → ((c : ℕ) → (c == 0) ≡ false → (c == 1) ≡ false → (c == 2) ≡ false → (c == 3) ≡ false → P c) → (c : ℕ) → P c
by_code P p0 p1 p2 p3 other zero = p0
by_code P p0 p1 p2 p3 other (suc zero) = p1
by_code P p0 p1 p2 p3 other (suc (suc zero)) = p2
by_code P p0 p1 p2 p3 other (suc (suc (suc zero))) = p3
by_code P p0 p1 p2 p3 other (suc (suc (suc (suc n)))) =
    let c : ℕ = suc (suc (suc (suc n))) in
    other c (ne_eqb c 0 (λ h. omega arith)) (ne_eqb c 1 (λ h. omega arith)) (ne_eqb c 2 (λ h. omega arith))
    (ne_eqb c 3 (λ h. omega arith))

-- what an operation of this code adds to the times that k was done
abbrev pub once : ℕ → ℕ → Bool → ℕ
once k code served = cond (code == k && nat_lt 0 (cond served 1 0)) 1 0

pub once-false : (k code : ℕ) → once k code false ≡ 0
once-false k code = grind (arith, nat_tests)

times_done-cons : (code : ℕ) (act : Answered) (acts : List Answered)
    → times_done code (act ∷ acts) ≡ cond (is_done code act) 1 0 + times_done code acts
times_done-cons code act acts = sum_by-cons (λ a. cond (is_done code a) 1 0) act acts

joined : (first second rest others before between after : ℕ) → first + before ≡ second + between
    → rest + between ≡ others + after
    → first + rest + before ≡ second + others + after
joined first second rest others before between after one more = omega arith

-- a list with one more operation in front: what came is what went and what is there
pub counted : (came went : ℕ) (act : Answered) (acts : List Answered) (before between after : ℕ)
    → cond (is_done came act) 1 0 + before ≡ cond (is_done went act) 1 0 + between
    → times_done came acts + between ≡ times_done went acts + after
    → times_done came (act ∷ acts) + before ≡ times_done went (act ∷ acts) + after
counted came went act acts before between after one more = search (rules, times_done-cons, joined, cond)
