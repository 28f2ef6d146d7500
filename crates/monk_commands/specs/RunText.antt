-- The text of a run that tells a log, and the answer to a log if a run is asked for
use Rattle.std.specs.Prelude.{◌≡◌, ◌^◌, MatchOption, ℕ, List, ◌∷◌, [], ◌++◌, codes}
use Rattle.std.specs.{Fmt.decimal, List.flat_map}
use Rattle.monk_object.specs.Names.{meaning_named, object_word, opening_named}
use Rattle.monk_history.specs.Text.Lines.{line}
use Rattle.monk_judge.specs.{Blame.blame_word, Reports.IsRunOf, Run.setting, Text.step_text}
use Rattle.monk_judge.specs.declared.{misfit.Misfit.Misfit, run.Run.Run, step.Step.Step}
use Rattle.monk_logs.specs.{Log.LogHeading, Log.Reading.Log, Log.Reading.log_at, declared.text.line.LogLine.LogLine}
use Rattle.monk_commands.specs.{Answer.IsReading, Answer.IsSized, LogFound.number}

-- ---- the text

-- the first line
abbrev pub run_heading : LogHeading → List ℕ
run_heading h =
    line (codes "run" ∷ codes "NPNB" ∷ decimal h.seats ∷ decimal h.conds ∷ object_word h.object ∷ decimal h.size ∷ [])

-- the line of a step
abbrev pub step_line : Step → List ℕ
step_line step = step_text step ++ codes "\n"

-- the text of a run
abbrev pub run_text : LogHeading → List Step → List ℕ
run_text h steps = run_heading h ++ flat_map step_line steps

-- ---- the answer

-- it is a run of the lines of a log with that header, up to the one that misfits
abbrev pub IsRunOfLog : LogHeading → List LogLine → Run → Type 0
IsRunOfLog h lines run =
    IsRunOf (setting h.seats h.conds (meaning_named h.object)) (opening_named h.object h.size) lines run.misfit
    run.steps.items

-- the line of a misfit
abbrev pub misfit_line : Misfit → List ℕ
misfit_line f = codes "misfit at " ++ (decimal (number f.line) ++ (codes ": " ++ (blame_word f.why ++ codes "\n")))

-- the text of a run, if it tells all lines
abbrev pub IsRunGiven : LogHeading → Run → ℕ → List ℕ → Type 0
IsRunGiven h run status text = MatchOption run.misfit ((status ≡ 0) × (text ≡ run_text h run.steps.items))
    (λ f. (status ≡ 1) × (text ≡ misfit_line f))

-- a run of the log is given
pub record IsSomeRun (h : LogHeading) (lines : List LogLine) (status : ℕ) (text : List ℕ) : Type 0 where
  pub run : Run
  pub is : IsRunOfLog h lines run
  pub given : IsRunGiven h run status text

-- the answer to a log
abbrev pub IsRunGivenTo : Log → ℕ → List ℕ → Type 0
IsRunGivenTo l status text = IsSized l.0.object l.0.size (IsSomeRun l.0 l.1) status text

-- the answer to a text
abbrev pub IsRunAnswer : List ℕ → ℕ → List ℕ → Type 0
IsRunAnswer input status text = IsReading IsRunGivenTo (log_at (2 ^ 25) input) status text
