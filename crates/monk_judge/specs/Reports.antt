-- The report on a log
use Rattle.std.specs.Prelude.{◌≡◌, ℕ, List, Option, Some, None, MatchOption, length, slice_index_or, take}
use Rattle.monk_logs.specs.Crossed.{crossed_of}
use Rattle.monk_logs.specs.declared.text.line.LogLine.{LogLine, TheVariants.Enter}
use Rattle.monk_judge.specs.{Blamed.IsBlamed, Among.NamesLast, Asked.ComeBackAtOnce, Asked.asked, Asked.asked_by}
use Rattle.monk_judge.specs.{Holding.IsHolder, Judged.after_all, Missed.NamesFirstMissed, Moments.Moment}
use Rattle.monk_judge.specs.{Moments.moment, Moments.moments, Overtaken.CountsOvertaken, Shown.Shown, Shown.state_of}
use Rattle.monk_judge.specs.Counts.{finds_nobody, is_asleep, passes, sleepers, total, wakes, woken_ones}
use Rattle.monk_judge.specs.Explains.{IsFirstNeed, IsLeast, IsMisfit}
use Rattle.monk_judge.specs.Run.{Setting, IsRun, lines_of, opening, unasked}
use Rattle.monk_judge.specs.declared.{misfit.Misfit.Misfit, overtaking.Hints.Hints, report.Report.Report}
use Rattle.monk_judge.specs.declared.{tally.Tally.Tally, waits_for.WaitsFor.WaitsFor}
use Rattle.monk_judge.specs.declared.step.Step.{Step, TheVariants.Tells}

-- the lines before a misfit
abbrev pub fitting : Option Misfit → List LogLine → List LogLine
fitting None lines = lines
fitting (Some f) lines = take f.line lines

-- `found` is the misfit, and the steps are a run of the lines before it; no run of them has fewer
-- wake-ups that nobody sent. A wait runs out exactly behind its own line, and only if its thread's next line says so;
-- whoever wakes though nobody signalled comes back in the next step. After them the line of the misfit can't stand, for
-- the reason that is named
pub record IsRunOf (m : Setting) (d : List ℕ) (lines : List LogLine) (found : Option Misfit)
    (steps : List Step) : Type 0 where
  pub misfit : IsMisfit m d lines found
  pub run : IsRun m (opening d) steps
  pub told : lines_of steps ≡ fitting found lines
  pub least : IsLeast m d steps
  pub asks : asked steps ≡ asked_by (length (fitting found lines)) lines
  pub back : ComeBackAtOnce steps
  pub blamed : MatchOption found (Unit {0})
      (λ f. IsBlamed m (after_all m (opening d) steps) (slice_index_or lines f.line (Enter 0)) f.why)

-- it names the first line that needs a wake-up that nobody sent, unless none is needed
abbrev pub NamesFirstNeed : Setting → List ℕ → List LogLine → Option ℕ → ℕ → Type 0
NamesFirstNeed m d lines first many = MatchOption first (many ≡ 0) (λ k. IsFirstNeed m d lines k)

-- a signal that finds nobody
abbrev pub IsUnheard : ℕ → Moment → Type 0
IsUnheard n t = finds_nobody n t.before (Tells t.line t.whom) ≡ 1

-- it names the last signal among these that finds nobody
abbrev pub NamesLastUnheard : ℕ → List Moment → Option ℕ → Type 0
NamesLastUnheard n all found = NamesLast (λ k. IsUnheard n (moment all k)) (length all) found

-- the tally has what these steps count
pub record IsCounted (m : Setting) (d : List ℕ) (lines : List LogLine) (steps : List Step) (t : Tally) : Type 0 where
  pub spurious : t.spurious ≡ unasked steps
  pub served : t.served ≡ total (wakes m.seats) m (opening d) steps
  pub passed : t.passed ≡ total (passes m.seats) m (opening d) steps
  pub unheard : t.unheard ≡ total (finds_nobody m.seats) m (opening d) steps
  pub first : NamesFirstNeed m d lines t.first_spurious t.spurious
  pub last : NamesLastUnheard m.seats (moments m (opening d) steps) t.last_unheard

-- it gives the misfit, and the counts and the places of threads at the end of such a run
pub record IsReport (m : Setting) (d : List ℕ) (lines : List LogLine) (means : List WaitsFor)
    (r : Report) : Type 0 where
  pub steps : List Step
  pub run : IsRunOf m d lines r.misfit steps
  pub counted : IsCounted m d lines steps r.tally
  pub holder : IsHolder (fitting r.misfit lines) (after_all m (opening d) steps).lock r.holder
  pub asleep : r.asleep ≡ sleepers m.seats (after_all m (opening d) steps)
  pub woken : r.woken ≡ woken_ones m.seats (after_all m (opening d) steps)
  pub missed : NamesFirstMissed m.object means (moments m (opening d) steps) r.missed
  pub overtaken : CountsOvertaken lines (moments m (opening d) steps) r.tally.overtaken r.tally.again
      r.tally.first_not_again
  pub crossed : r.crossed ≡ crossed_of (λ s. is_asleep ((after_all m (opening d) steps).place s))
      (fitting r.misfit lines)

-- a judge has taken the lines up to the misfit
pub record IsTaken (m : Setting) (d : List ℕ) (lines : List LogLine) (means : List WaitsFor) (found : Option Misfit)
    (t : Tally) (lacking : Option ℕ) (h : Hints) (v : Shown) : Type 0 where
  pub steps : List Step
  pub run : IsRunOf m d lines found steps
  pub counted : IsCounted m d lines steps t
  pub missed : NamesFirstMissed m.object means (moments m (opening d) steps) lacking
  pub overtaken : CountsOvertaken lines (moments m (opening d) steps) h.many h.again h.first_not_again
  pub holder : v.lock ≡ (after_all m (opening d) steps).lock
  pub places : (state_of v).place ≡ (after_all m (opening d) steps).place
  pub seats : length v.places ≡ m.seats
