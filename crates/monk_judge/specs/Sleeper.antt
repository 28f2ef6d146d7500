-- The report of a log after which one thread sleeps
use Rattle.std.specs.Prelude.{◌≡◌, ℕ, List, [], ◌∷◌, Some, None}
use Rattle.monk_object.specs.Object.{Object}
use Rattle.monk_logs.specs.declared.text.line.LogLine.{LogLine, TheVariants.Enter, TheVariants.Wait}
use Rattle.monk_judge.specs.{Missed.Holds, Reports.IsReport, Run.setting}
use Rattle.monk_judge.specs.declared.{report.Report.Report, waits_for.WaitsFor.WaitsFor}

-- a thread comes in, and waits
abbrev pub comes_and_waits : List LogLine
comes_and_waits = Enter 0 ∷ Wait 0 0 ∷ []

-- the thread is asleep, and nobody is woken
abbrev pub ToldAsleep : Type 0
ToldAsleep = (o : Object) (d : List ℕ) (means : List WaitsFor) (r : Report)
    → IsReport (setting 1 1 o) d comes_and_waits means r → r.misfit ≡ None → (r.asleep ≡ 1) × (r.woken ≡ 0)

-- if what it waits for holds already, a signal is missing behind its wait
abbrev pub ToldMissed : Type 0
ToldMissed = (o : Object) (d : List ℕ) (p : ℕ) (r : Report) → Holds o d p
    → IsReport (setting 1 1 o) d comes_and_waits (record { cond = 0; pred = p } ∷ []) r → r.misfit ≡ None
    → r.missed ≡ Some 1
