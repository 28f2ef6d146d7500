-- If a line can follow, its steps are a run, and tell the line
use Rattle.std.proofs.Common.{◌≡◌, ℕ, Bool, List, [], ◌∷◌, ◌++◌, Option, refl, ap}
use Rattle.std.proofs.{lemmas.Bool.Decides.nat_tests, Common.arith}
use Rattle.monk_logs.specs.declared.text.line.LogLine.{LogLine}
use Rattle.monk_judge.specs.Judged.{CanStand, IsRight, after_all, steps_at}
use Rattle.monk_judge.specs.declared.step.Step.{Step, TheVariants.Tells, TheVariants.RunsOut, TheVariants.WakesUnasked}
use Rattle.monk_judge.specs.Run.{Setting, State, after, IsRun, lines_of}

-- one run after another
pub run_on : (m : Setting) (x : State) (a b : List Step) → IsRun m x a → IsRun m (after_all m x a) b
    → IsRun m x (a ++ b)
run_on m x [] b h k = k
run_on m x (step ∷ a) b h k = (h.0, run_on m (after m x step) a b h.1 k)

pub lines_on : (a b : List Step) → lines_of (a ++ b) ≡ lines_of a ++ lines_of b
lines_on [] b = refl
lines_on (Tells l w ∷ a) b = ap (λ k. l ∷ k) (lines_on a b)
lines_on (RunsOut s ∷ a) b = lines_on a b
lines_on (WakesUnasked s ∷ a) b = lines_on a b

-- if a line can follow, its steps are a run
pub line_run : (m : Setting) (x : State) (l : LogLine) (w : Option ℕ) (lapses : Bool) → IsRight x l w → CanStand m x l
    → IsRun m x (steps_at x l w lapses)
line_run m x l w lapses right h = grind (arith, nat_tests)

-- and they tell the line
pub line_told : (m : Setting) (x : State) (l : LogLine) (w : Option ℕ) (lapses : Bool) → CanStand m x l
    → lines_of (steps_at x l w lapses) ≡ l ∷ []
line_told m x l w lapses h = grind (arith, nat_tests)
