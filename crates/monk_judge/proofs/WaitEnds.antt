-- Which of two waits ends earlier
use Rattle.std.proofs.Common.{◌≡◌, ◌⊎◌, ℕ, ◌≤◌, true, arith, sym, subst}
use Rattle.std.{proofs.lemmas.Bool.ltb-true, proofs.lemmas.Bool.Decides.nat_tests, specs.Prelude.nat_lt}
use Rattle.monk_judge.specs.Ends.{ResumesBy}
use Rattle.monk_judge.specs.declared.wait_end.WaitEnd.{WaitEnd}
use Rattle.monk_judge.specs.declared.wait_end.WaitEnd.TheVariants.{Resumes, RunsOut, Never}

-- a wait that ends by a later line doesn't end by the earlier one
pub resumes_later : (self other : WaitEnd) (mine others : ℕ) → self ≡ Resumes mine → other ≡ Resumes others
    → nat_lt mine others ≡ true → ((n : ℕ) → ResumesBy self n → ResumesBy other n) → ⊥
resumes_later self other mine others is is_other less same_or_later =
    let late : others ≤ mine = subst (λ e. ResumesBy e mine) is_other
    (same_or_later mine (subst (λ e. ResumesBy e mine) (sym is) (let same : mine ≤ mine = omega arith in same))) in
    let lt = ltb-true mine others less in
    absurd (omega (arith, lt, late))

-- one that runs out, or whose end no line tells, doesn't end by a `resume`
pub resumes_never : (other : WaitEnd) (n : ℕ) → (other ≡ RunsOut) ⊎ (other ≡ Never) → ResumesBy other n → ⊥
resumes_never other n is by = grind (arith, nat_tests)
