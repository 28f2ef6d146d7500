-- Wake-ups that nobody sent are the sum of those on each condition
use Rattle.std.proofs.Common.{◌≡◌, ℕ, zero, suc, ◌+◌, ◌<◌, ◌≤◌, ◌==◌, ◌⊎◌, inl, inr, Bool, List, [], ◌∷◌, if◌then◌else◌, refl, sym, ap, arith}
use Rattle.std.proofs.lemmas.Bool.{eq-eqb, ne_eqb, Decides.nat_tests}
use Rattle.monk_logs.specs.declared.text.line.LogLine.TheVariants.{Enter, Resume, Lapse, Leave, Wait, Signal, Broadcast}
use Rattle.monk_logs.specs.declared.text.line.LogLine.TheVariants.{Until, Act}
use Rattle.monk_judge.proofs.{LeastLaw.unasked_on, Sleepers.active_not, Sleepers.outside_not, Sleepers.placed_sleeps}
use Rattle.monk_judge.proofs.{Sleepers.run_out_not, Sleepers.signalled_back, Sleepers.unasked_not, Sleepers.woken_back}
use Rattle.monk_judge.specs.Counts.{one, waits_on}
use Rattle.monk_judge.specs.declared.step.Step.{Step, TheVariants.Tells, TheVariants.RunsOut, TheVariants.WakesUnasked}
use Rattle.monk_judge.specs.declared.place.Place.{Place}
use Rattle.monk_judge.specs.declared.place.Place.TheVariants.{Outside, Active, Waiting, Woken, RanOut}
use Rattle.monk_judge.specs.Run.{Setting, State, May, Sleeps, IsRun, after, opening, run_out, unasked, woken_unasked}

-- ---- sums

abbrev pub sum_to : (ℕ → ℕ) → ℕ → ℕ
sum_to f zero = 0
sum_to f (suc n) = sum_to f n + f n

sum_zero : (n : ℕ) → sum_to (λ c. 0) n ≡ 0
sum_zero zero = refl
sum_zero (suc n) = let a = sum_zero n in omega arith

sum_add : (f g : ℕ → ℕ) (n : ℕ) → sum_to (λ c. f c + g c) n ≡ sum_to f n + sum_to g n
sum_add f g zero = refl
sum_add f g (suc n) = let a = sum_add f g n in omega arith

sum_le : (f g : ℕ → ℕ) (n : ℕ) → ((c : ℕ) → f c ≤ g c) → sum_to f n ≤ sum_to g n
sum_le f g zero h = omega arith
sum_le f g (suc n) h = let a = sum_le f g n h in let b = h n in omega arith

none_once : (e n : ℕ) → n ≤ e → sum_to (λ c. one (e == c)) n ≡ 0
none_once e zero le = refl
none_once e (suc n) le =
    let a = none_once e n (omega arith) in
    let b : one (e == n) ≡ 0 = ap one (ne_eqb e n (λ same. absurd (omega arith))) in omega arith

here_or_before : (e n : ℕ) → e < suc n → (e ≡ n) ⊎ (e < n)
here_or_before e n lt = grind arith

once : (e n : ℕ) → e < n → sum_to (λ c. one (e == c)) n ≡ 1
once e zero lt = absurd (omega arith)
once e (suc n) lt =
    elim (here_or_before e n lt) as (λ k. sum_to (λ c. one (e == c)) (suc n) ≡ 1) [
      | inl same ↦ grind (arith, nat_tests, none_once, eq-eqb)
      | inr less ↦
          let a = once e n less in
          let b : one (e == n) ≡ 0 = ap one (ne_eqb e n (λ same. absurd (omega arith))) in omega arith
    ]

-- ---- conditions of those who sleep

abbrev AreWithin : Setting → State → Type 0
AreWithin m x = (j c : ℕ) → x.place j ≡ Waiting c → c < m.conds

waits_within : (m : Setting) (x : State) (s e j c : ℕ) (b : Bool) → e < m.conds → AreWithin m x
    → (if b then Waiting e else x.place j) ≡ Waiting c → c < m.conds
waits_within m x s e j c b lt old h = grind (arith, nat_tests)

keeps_within : (m : Setting) (x : State) (step : Step) → May m x step → AreWithin m x → AreWithin m (after m x step)
keeps_within m x (Tells (Enter s) w) may old j c h = old j c (placed_sleeps s j c Active x.place (active_not c) h).1
keeps_within m x (Tells (Resume s) w) may old j c h = old j c (placed_sleeps s j c Active x.place (active_not c) h).1
keeps_within m x (Tells (Lapse s) w) may old j c h = old j c (placed_sleeps s j c Active x.place (active_not c) h).1
keeps_within m x (Tells (Leave s) w) may old j c h = old j c (placed_sleeps s j c Outside x.place (outside_not c) h).1
keeps_within m x (Tells (Wait s e) w) may old j c h = waits_within m x s e j c (j == s) may.1 old h
keeps_within m x (Tells (Signal s e) w) may old j c h = old j c (signalled_back e j c w x.place h)
keeps_within m x (Tells (Broadcast s e) w) may old j c h = old j c (woken_back e c (x.place j) h)
keeps_within m x (Tells (Until s p) w) may old j c h = absurd may
keeps_within m x (Tells (Act s op r) w) may old j c h = old j c h
keeps_within m x (RunsOut s) may old j c h = old j c
    (placed_sleeps s j c (run_out (x.place s)) x.place (run_out_not (x.place s) c) h).1
keeps_within m x (WakesUnasked s) may old j c h = old j c
    (placed_sleeps s j c (woken_unasked (x.place s)) x.place (unasked_not (x.place s) c) h).1

-- a thread that sleeps does so on one condition
sleeps_once : (m : Setting) (x : State) (s : ℕ) (p : Place) → x.place s ≡ p → Sleeps p → AreWithin m x
    → sum_to (λ c. one (waits_on c p)) m.conds ≡ 1
sleeps_once m x s Outside e h old = absurd h
sleeps_once m x s Active e h old = absurd h
sleeps_once m x s (Waiting d) e h old = once d m.conds (old s d e)
sleeps_once m x s (Woken d) e h old = absurd h
sleeps_once m x s (RanOut d) e h old = absurd h

unasked_is_sum : (m : Setting) (x : State) (steps : List Step) → IsRun m x steps → AreWithin m x
    → unasked steps ≡ sum_to (λ c. unasked_on m c x steps) m.conds
unasked_is_sum m x [] run old = sym (sum_zero m.conds)
unasked_is_sum m x (Tells l w ∷ steps) run old =
    unasked_is_sum m (after m x (Tells l w)) steps run.1 (keeps_within m x (Tells l w) run.0 old)
unasked_is_sum m x (RunsOut s ∷ steps) run old =
    unasked_is_sum m (after m x (RunsOut s)) steps run.1 (keeps_within m x (RunsOut s) run.0 old)
unasked_is_sum m x (WakesUnasked s ∷ steps) run old =
    let z = after m x (WakesUnasked s) in
    let more = unasked_is_sum m z steps run.1 (keeps_within m x (WakesUnasked s) run.0 old) in
    let here = sleeps_once m x s (x.place s) refl run.0 old in
    let both = sum_add (λ c. one (waits_on c (x.place s))) (λ c. unasked_on m c z steps) m.conds in
    omega arith

opening_within : (m : Setting) (d : List ℕ) → AreWithin m (opening d)
opening_within m d j c h = absurd (outside_not c h)

-- if no condition has more, there are no more in all
pub fewest : (m : Setting) (d : List ℕ) (steps others : List Step) → IsRun m (opening d) steps
    → IsRun m (opening d) others
    → ((c : ℕ) → unasked_on m c (opening d) steps ≤ unasked_on m c (opening d) others) → unasked steps ≤ unasked others
fewest m d steps others run other h = grind (arith, nat_tests, unasked_is_sum, opening_within, sum_le, unasked_on)
