-- What is told of a thread that comes in and waits to the end of its log
use Rattle.std.proofs.Common.{◌≡◌, ℕ, List, [], ◌∷◌, Option, Some, None, length, arith, refl, sym, ap, subst, ◌∙◌}
use Rattle.std.proofs.lemmas.Bool.Decides.{nat_tests}
use Rattle.monk_object.specs.Object.{Object}
use Rattle.monk_logs.specs.declared.text.line.LogLine.{LogLine, TheVariants.Enter, TheVariants.Resume, TheVariants.Wait}
use Rattle.monk_judge.specs.{Counts.sleepers, Counts.woken_ones, Judged.after_all, Reports.IsReport, Reports.fitting}
use Rattle.monk_judge.specs.{Run.opening, Run.setting, Moments.Moment, Moments.moments, Missed.Holds}
use Rattle.monk_judge.specs.{Missed.NamesFirstMissed, Asked.ComeBackAtOnce, Asked.asked, Asked.asked_by}
use Rattle.monk_judge.specs.Sleeper.{ToldAsleep, ToldMissed, comes_and_waits}
use Rattle.monk_judge.specs.declared.{report.Report.Report, waits_for.WaitsFor.WaitsFor}
use Rattle.monk_judge.specs.declared.step.Step.{Step, TheVariants.Tells, TheVariants.RunsOut, TheVariants.WakesUnasked}

-- the steps are these two
record AreBoth (steps : List Step) : Type 0 where
  first : Option ℕ
  second : Option ℕ
  is : steps ≡ Tells (Enter 0) first ∷ Tells (Wait 0 0) second ∷ []

-- no step is left
none_left : (steps : List Step) → asked steps ≡ [] → ComeBackAtOnce steps → steps ≡ []
none_left [] a b = refl
none_left (Tells l w ∷ steps) a b = cc
none_left (RunsOut s ∷ steps) a b = cc
none_left (WakesUnasked s ∷ []) a b = absurd b.0
none_left (WakesUnasked s ∷ Tells l w ∷ steps) a b = cc
none_left (WakesUnasked s ∷ RunsOut t ∷ steps) a b = absurd b.0
none_left (WakesUnasked s ∷ WakesUnasked t ∷ steps) a b = absurd b.0

-- the first step tells the line for which the run asks, unless a thread comes back there
record BeginsWith (l : LogLine) (rest : List Step) (steps : List Step) : Type 0 where
  whom : Option ℕ
  tail : List Step
  is : steps ≡ Tells l whom ∷ tail
  asks : asked tail ≡ rest
  back : ComeBackAtOnce tail

begins : (l : LogLine) (rest : List Step) (steps : List Step) → ((s : ℕ) → l ≡ Resume s → ⊥)
    → asked steps ≡ Tells l None ∷ rest → ComeBackAtOnce steps → BeginsWith l rest steps
begins l rest [] other a b = absurd cc
begins l rest (Tells k w ∷ steps) other a b =
    let same : k ≡ l = cc in
    record { whom = w; tail = steps; is = ap (λ x. Tells x w ∷ steps) same; asks = cc; back = b }
begins l rest (RunsOut s ∷ steps) other a b = absurd cc
begins l rest (WakesUnasked s ∷ []) other a b = absurd b.0
begins l rest (WakesUnasked s ∷ Tells k w ∷ steps) other a b =
    let same : k ≡ l = cc in absurd (other s (sym same ∙ b.0))
begins l rest (WakesUnasked s ∷ RunsOut t ∷ steps) other a b = absurd b.0
begins l rest (WakesUnasked s ∷ WakesUnasked t ∷ steps) other a b = absurd b.0

no_enter : (s : ℕ) → Enter 0 ≡ Resume s → ⊥
no_enter s e = cc

no_wait : (s : ℕ) → Wait 0 0 ≡ Resume s → ⊥
no_wait s e = cc

are_both : (steps : List Step) → asked steps ≡ asked_by 2 comes_and_waits → ComeBackAtOnce steps → AreBoth steps
are_both steps a b =
    let one = begins (Enter 0) (Tells (Wait 0 0) None ∷ []) steps no_enter a b in
    let two = begins (Wait 0 0) [] one.tail no_wait one.asks one.back in
    grind (arith, nat_tests, none_left)

-- the run of such a report
run_is : (o : Object) (d : List ℕ) (means : List WaitsFor) (r : Report)
    → (is : IsReport (setting 1 1 o) d comes_and_waits means r) → r.misfit ≡ None → AreBoth is.steps
run_is o d means r is none =
    are_both is.steps
    (is.run.asks ∙ ap (λ k. asked_by (length (fitting k comes_and_waits)) comes_and_waits) none)
    is.run.back

pub told_asleep : ToldAsleep
told_asleep o d means r is none =
    let m = setting 1 1 o in
    let both = run_is o d means r is none in
    let asleep = ap (λ k. sleepers 1 (after_all m (opening d) k)) both.is in
    let woken = ap (λ k. woken_ones 1 (after_all m (opening d) k)) both.is in
    (is.asleep ∙ asleep, is.woken ∙ woken)

-- what the thread waits for, and the moments of the run
abbrev meaning : ℕ → List WaitsFor
meaning p = record { cond = 0; pred = p } ∷ []

abbrev both_moments : Object → List ℕ → Option ℕ → Option ℕ → List Moment
both_moments o d v w = moments (setting 1 1 o) (opening d) (Tells (Enter 0) v ∷ Tells (Wait 0 0) w ∷ [])

-- it is the first
names : (o : Object) (d : List ℕ) (p : ℕ) (v w : Option ℕ) (found : Option ℕ) → Holds o d p
    → NamesFirstMissed o (meaning p) (both_moments o d v w) found → found ≡ Some 1
names o d p v w found holds h = grind (arith, nat_tests)

pub told_missed : ToldMissed
told_missed o d p r holds is none =
    let both = run_is o d (meaning p) r is none in
    names o d p both.first both.second r.missed holds
    (subst (λ k. NamesFirstMissed o (meaning p) (moments (setting 1 1 o) (opening d) k) r.missed) both.is is.missed)
