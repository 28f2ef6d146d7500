-- Which logs a program on a mutex can have written
use Rattle.std.specs.Prelude.{◌≡◌, ℕ, ◌+◌, ◌<◌, ◌≤◌, List, Option, MatchOption, length, take}
use Rattle.monk_logs.specs.declared.text.line.LogLine.{LogLine}
use Rattle.monk_judge.specs.Run.{Setting, State, IsRun, lines_of, opening, unasked}
use Rattle.monk_judge.specs.declared.{misfit.Misfit.Misfit, step.Step.Step}

-- some run tells these lines
pub record IsExplainable (m : Setting) (x : State) (lines : List LogLine) : Type 0 where
  pub steps : List Step
  pub run : IsRun m x steps
  pub told : lines_of steps ≡ lines

-- it is none exactly if some run tells the lines; else it is the first line, from 0, with which no run does
abbrev pub IsMisfit : Setting → List ℕ → List LogLine → Option Misfit → Type 0
IsMisfit m d lines found = MatchOption found (IsExplainable m (opening d) lines)
    (λ f. (f.line < length lines) × IsExplainable m (opening d) (take f.line lines)
    × (IsExplainable m (opening d) (take (f.line + 1) lines) → ⊥))

-- line `k`, from 0, is the first that needs a wake-up that nobody sent: some run tells the lines
-- before it without one, and none tells that line too without one
pub record IsFirstNeed (m : Setting) (d : List ℕ) (lines : List LogLine) (k : ℕ) : Type 0 where
  pub steps : List Step
  pub run : IsRun m (opening d) steps
  pub told : lines_of steps ≡ take k lines
  pub free : unasked steps ≡ 0
  pub needs : (others : List Step) → IsRun m (opening d) others → lines_of others ≡ take (k + 1) lines
      → 1 ≤ unasked others

-- no run of the same lines has fewer wake-ups that nobody sent
abbrev pub IsLeast : Setting → List ℕ → List Step → Type 0
IsLeast m d steps = (others : List Step) → IsRun m (opening d) others → lines_of others ≡ lines_of steps
    → unasked steps ≤ unasked others
