-- What each line of a run finds
use Rattle.std.specs.Prelude.{ℕ, List, [], ◌∷◌, Option, None, slice_index_or}
use Rattle.monk_logs.specs.declared.text.line.LogLine.{LogLine, TheVariants.Enter}
use Rattle.monk_judge.specs.Run.{Setting, State, after, opening}
use Rattle.monk_judge.specs.declared.step.Step.{Step, TheVariants.Tells, TheVariants.RunsOut, TheVariants.WakesUnasked}

-- a line, the thread that its signal wakes, and the states before and after it
pub record Moment : Type 0 where
  pub line : LogLine
  pub whom : Option ℕ
  pub before : State
  pub behind : State

-- the state after the waits have run out that run out first of all
abbrev pub settled : Setting → State → List Step → State
settled m x [] = x
settled m x (Tells l w ∷ steps) = x
settled m x (RunsOut s ∷ steps) = settled m (after m x (RunsOut s)) steps
settled m x (WakesUnasked s ∷ steps) = x

-- the moments of a run, one for each line
abbrev pub moments : Setting → State → List Step → List Moment
moments m x [] = []
moments m x (Tells l w ∷ steps) =
    record { line = l; whom = w; before = x; behind = settled m (after m x (Tells l w)) steps }
    ∷ moments m (after m x (Tells l w)) steps
moments m x (RunsOut s ∷ steps) = moments m (after m x (RunsOut s)) steps
moments m x (WakesUnasked s ∷ steps) = moments m (after m x (WakesUnasked s)) steps

-- the moment with index `k`
abbrev pub moment : List Moment → ℕ → Moment
moment all k = slice_index_or all k
    (record { line = Enter 0; whom = None; before = opening []; behind = opening [] })
