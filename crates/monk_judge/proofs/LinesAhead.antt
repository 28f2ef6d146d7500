-- How waits end, one line earlier and one line later
use Rattle.std.proofs.Common.{◌≡◌, ℕ, zero, suc, ◌+◌, ◌<◌, ◌≤◌, ◌⊎◌, inl, inr, true, List, [], ◌∷◌, length, get_or, set, replicate, drop, refl, sym, ap, subst, arith, ◌∙◌, if◌then◌else◌}
use Rattle.std.proofs.lemmas.Bool.{false≢true, ne_eqb, Decides.nat_tests}
use Rattle.std.proofs.lemmas.List.{drop_all, get_or-set_same, get_or-set_other}
use Rattle.monk_logs.specs.Log.{is_lapse, line_seat}
use Rattle.monk_logs.specs.declared.text.line.LogLine.{LogLine, TheVariants.Enter}
use Rattle.monk_judge.specs.Ends.{IsEnd, ResumesBy, is_resume, lapses_next, resumes_within, runs_out}
use Rattle.monk_judge.specs.declared.wait_end.WaitEnd.{WaitEnd}
use Rattle.monk_judge.specs.declared.wait_end.WaitEnd.TheVariants.{Resumes, RunsOut, Never}

-- ---- past a line

-- whether other threads than the line's go on, within one line less
pub past_other : (l : LogLine) (rest : List LogLine) (j d : ℕ) → (j ≡ line_seat l → ⊥)
    → resumes_within j (suc d) (l ∷ rest) ≡ resumes_within j d rest
past_other l rest j d ne = ap (λ b. if b then is_resume l else resumes_within j d rest) (ne_eqb j (line_seat l) ne)

pub past_own : (l : LogLine) (rest : List LogLine) (d : ℕ)
    → resumes_within (line_seat l) (suc d) (l ∷ rest) ≡ is_resume l
past_own l rest d = grind (arith, nat_tests)

lapse_other : (l : LogLine) (rest : List LogLine) (j : ℕ) → (j ≡ line_seat l → ⊥)
    → lapses_next j (l ∷ rest) ≡ lapses_next j rest
lapse_other l rest j ne = ap (λ b. if b then is_lapse l else lapses_next j rest) (ne_eqb j (line_seat l) ne)

by_later : (e : WaitEnd) (n m : ℕ) → n ≤ m → ResumesBy e n → ResumesBy e m
by_later (Resumes k) n m le h = omega arith
by_later RunsOut n m le h = absurd h
by_later Never n m le h = absurd h

-- after the last line no wait ends
none_within : (s d : ℕ) (A : Type 0) → resumes_within s d [] ≡ true → A
none_within s zero A h = absurd (false≢true h)
none_within s (suc d) A h = absurd (false≢true h)

pub end_never : (s past : ℕ) → IsEnd s past Never []
end_never s past = record { lapses = refl; by = λ d h. none_within s d _ h; within = λ d h. absurd h }

-- for another thread than the line's
other_by : (j k : ℕ) (e : WaitEnd) (l : LogLine) (rest : List LogLine) → (j ≡ line_seat l → ⊥) → IsEnd j (k + 1) e rest
    → (d : ℕ) → resumes_within j d (l ∷ rest) ≡ true → ResumesBy e (k + d)
other_by j k e l rest ne h zero r = absurd (false≢true r)
other_by j k e l rest ne h (suc d) r = by_later e (k + 1 + d) (k + suc d) (omega arith)
    (h.by d (sym (past_other l rest j d ne) ∙ r))

other_within : (j k : ℕ) (e : WaitEnd) (l : LogLine) (rest : List LogLine) → (j ≡ line_seat l → ⊥)
    → IsEnd j (k + 1) e rest
    → (d : ℕ) → ResumesBy e (k + d) → resumes_within j d (l ∷ rest) ≡ true
other_within j k e l rest ne h zero r = absurd
    (false≢true (h.within 0 (by_later e (k + 0) (k + 1 + 0) (omega arith) r)))
other_within j k e l rest ne h (suc d) r = past_other l rest j d ne
    ∙ h.within d (by_later e (k + suc d) (k + 1 + d) (omega arith) r)

pub end_other : (j k : ℕ) (e : WaitEnd) (l : LogLine) (rest : List LogLine) → (j ≡ line_seat l → ⊥)
    → IsEnd j (k + 1) e rest
    → IsEnd j k e (l ∷ rest)
end_other j k e l rest ne h = grind (arith, nat_tests, lapse_other, other_by, other_within)

pub end_past : (j k : ℕ) (e : WaitEnd) (l : LogLine) (rest : List LogLine) → (j ≡ line_seat l → ⊥)
    → IsEnd j k e (l ∷ rest)
    → IsEnd j (k + 1) e rest
end_past j k e l rest ne h = record {
  lapses = h.lapses ∙ lapse_other l rest j ne;
  by = λ d r. by_later e (k + suc d) (k + 1 + d) (omega arith) (h.by (suc d) (past_other l rest j d ne ∙ r));
  within = λ d r. sym (past_other l rest j d ne)
      ∙ h.within (suc d) (by_later e (k + 1 + d) (k + suc d) (omega arith) r);
}

-- how a wait has to end if `l` is its thread's next line; `number` is that line's number
pub record IsEndBy (l : LogLine) (number : ℕ) (e : WaitEnd) : Type 0 where
  pub lapses : runs_out e ≡ is_lapse l
  pub by : is_resume l ≡ true → (n : ℕ) → number ≤ n → ResumesBy e n
  pub within : (n : ℕ) → ResumesBy e n → (is_resume l ≡ true) × (number ≤ n)

end_own : (k : ℕ) (e : WaitEnd) (l : LogLine) (rest : List LogLine) → IsEndBy l (k + 1) e
    → IsEnd (line_seat l) k e (l ∷ rest)
end_own k e l rest h = grind (arith, nat_tests)

-- ---- by index

pub same_or : (j s : ℕ) → (j ≡ s) ⊎ (j ≡ s → ⊥)
same_or j s = grind arith

-- the next ends, one line earlier
pub next_kept : (next : List WaitEnd) (l : LogLine) (rest : List LogLine) (k : ℕ) (e : WaitEnd)
    → line_seat l < length next
    → IsEndBy l (k + 1) e → (s : ℕ) → IsEnd s (k + 1) (get_or next s (Resumes 0)) rest
    → IsEnd s k (get_or (set next (line_seat l) e) s (Resumes 0)) (l ∷ rest)
next_kept next l rest k e lt own s h =
    elim (same_or s (line_seat l)) as (λ z. IsEnd s k (get_or (set next (line_seat l) e) s (Resumes 0)) (l ∷ rest)) [
      | inl same ↦ subst (λ j. IsEnd j k (get_or (set next (line_seat l) e) j (Resumes 0)) (l ∷ rest)) (sym same)
          (subst (λ v. IsEnd (line_seat l) k v (l ∷ rest))
          (sym (get_or-set_same next (line_seat l) e (Resumes 0) lt)) (end_own k e l rest own))
      | inr other ↦ subst (λ v. IsEnd s k v (l ∷ rest))
          (sym (get_or-set_other next (line_seat l) s e (Resumes 0) other))
          (end_other s k (get_or next s (Resumes 0)) l rest other h)
    ]

-- the end of a wait in the line with index `k`
abbrev pub IsEndAt : List LogLine → ℕ → WaitEnd → Type 0
IsEndAt lines k e = IsEnd (line_seat (get_or lines k (Enter 0))) (k + 1) e (drop (k + 1) lines)

at_or_behind : (i k : ℕ) → i ≤ k → (k ≡ i) ⊎ (i + 1 ≤ k)
at_or_behind i k h = grind arith

pub each_kept : (ends : List WaitEnd) (lines : List LogLine) (i : ℕ) (e : WaitEnd) → i < length ends → IsEndAt lines i e
    → ((k : ℕ) → i + 1 ≤ k → k < length lines → IsEndAt lines k (get_or ends k (Resumes 0)))
    → (k : ℕ) → i ≤ k → k < length lines → IsEndAt lines k (get_or (set ends i e) k (Resumes 0))
each_kept ends lines i e lt h old k le few =
    elim (at_or_behind i k le) as (λ z. IsEndAt lines k (get_or (set ends i e) k (Resumes 0))) [
      | inl same ↦ grind (arith, nat_tests, get_or-set_same)
      | inr more ↦ grind (arith, nat_tests, get_or-set_other)
    ]

nth_never : (n s : ℕ) → s < n → get_or (replicate n Never) s (Resumes 0) ≡ Never
nth_never zero s lt = absurd (omega arith)
nth_never (suc n) zero lt = refl
nth_never (suc n) (suc s) lt = nth_never n s (omega arith)

pub nothing_next : (lines : List LogLine) (n s : ℕ) → s < n
    → IsEnd s (length lines) (get_or (replicate n Never) s (Resumes 0)) (drop (length lines) lines)
nothing_next lines n s lt = grind (arith, nat_tests, nth_never, drop_all, end_never)
