-- A run, step by step
use Rattle.std.specs.Prelude.{ℕ, zero, suc, List, [], ◌∷◌, ◌++◌}
use Rattle.monk_judge.specs.Run.{Setting, State, after}
use Rattle.monk_judge.specs.declared.place.Place.{Place}
use Rattle.monk_judge.specs.declared.step.Step.{Step, TheVariants.Tells, TheVariants.RunsOut, TheVariants.WakesUnasked}

-- each step, with the state after it
abbrev pub followed : Setting → State → List Step → List (Step × State)
followed m x [] = []
followed m x (step ∷ steps) = (step, after m x step) ∷ followed m (after m x step) steps

-- the steps that tell the first lines, as many as the number says
abbrev pub telling : ℕ → List Step → List Step
telling zero steps = []
telling (suc n) [] = []
telling (suc n) (Tells l w ∷ steps) = Tells l w ∷ telling n steps
telling (suc n) (RunsOut s ∷ steps) = RunsOut s ∷ telling (suc n) steps
telling (suc n) (WakesUnasked s ∷ steps) = WakesUnasked s ∷ telling (suc n) steps

-- the steps after these
abbrev pub behind_lines : ℕ → List Step → List Step
behind_lines zero steps = steps
behind_lines (suc n) [] = []
behind_lines (suc n) (Tells l w ∷ steps) = behind_lines n steps
behind_lines (suc n) (RunsOut s ∷ steps) = behind_lines (suc n) steps
behind_lines (suc n) (WakesUnasked s ∷ steps) = behind_lines (suc n) steps

-- how many lines are left after a step, if one more than the number were left before it
abbrev pub left_by : Step → ℕ → ℕ
left_by (Tells l w) n = n
left_by (RunsOut s) n = suc n
left_by (WakesUnasked s) n = suc n

-- where the threads below a number are, in order
abbrev pub places_below : ℕ → (ℕ → Place) → List Place
places_below zero place = []
places_below (suc n) place = places_below n place ++ place n ∷ []
