-- When the waits of a run end: one that runs out does so at once, and only if its thread's next line says so. One that
-- nobody ended by a signal ends when its thread comes back
use Rattle.std.specs.Prelude.{◌≡◌, ℕ, zero, suc, Bool, List, [], ◌∷◌, ◌++◌, None}
use Rattle.monk_logs.specs.Log.{line_seat}
use Rattle.monk_logs.specs.declared.text.line.LogLine.{LogLine}
use Rattle.monk_logs.specs.declared.text.line.LogLine.TheVariants.{Enter, Resume, Lapse, Leave, Wait, Signal, Broadcast}
use Rattle.monk_logs.specs.declared.text.line.LogLine.TheVariants.{Until, Act}
use Rattle.monk_judge.specs.{Ends.lapses_next, Judged.running_out}
use Rattle.monk_judge.specs.declared.step.Step.{Step, TheVariants.Tells, TheVariants.RunsOut, TheVariants.WakesUnasked}

-- a run without the wake-ups that nobody sent, and without whom a signal wakes
abbrev pub asked : List Step → List Step
asked [] = []
asked (Tells l w ∷ steps) = Tells l None ∷ asked steps
asked (RunsOut s ∷ steps) = RunsOut s ∷ asked steps
asked (WakesUnasked s ∷ steps) = asked steps

-- the same of one line, by whether its wait runs out
abbrev pub asked_of : LogLine → Bool → List Step
asked_of (Enter s) lapses = Tells (Enter s) None ∷ []
asked_of (Resume s) lapses = Tells (Resume s) None ∷ []
asked_of (Lapse s) lapses = Tells (Lapse s) None ∷ []
asked_of (Leave s) lapses = Tells (Leave s) None ∷ []
asked_of (Wait s c) lapses = Tells (Wait s c) None ∷ running_out s lapses
asked_of (Signal s c) lapses = Tells (Signal s c) None ∷ []
asked_of (Broadcast s c) lapses = Tells (Broadcast s c) None ∷ []
asked_of (Until s p) lapses = Tells (Until s p) None ∷ []
asked_of (Act s op r) lapses = Tells (Act s op r) None ∷ []

-- and of the first lines, as many as the number says
abbrev pub asked_by : ℕ → List LogLine → List Step
asked_by zero lines = []
asked_by (suc n) [] = []
asked_by (suc n) (l ∷ lines) = asked_of l (lapses_next (line_seat l) lines) ++ asked_by n lines

-- the first step tells this line
abbrev pub TellsFirst : LogLine → List Step → Type 0
TellsFirst l [] = ⊥
TellsFirst l (Tells k w ∷ steps) = k ≡ l
TellsFirst l (RunsOut s ∷ steps) = ⊥
TellsFirst l (WakesUnasked s ∷ steps) = ⊥

-- whoever wakes though nobody signalled comes back in the next step
abbrev pub ComeBackAtOnce : List Step → Type 0
ComeBackAtOnce [] = Unit {0}
ComeBackAtOnce (Tells l w ∷ steps) = ComeBackAtOnce steps
ComeBackAtOnce (RunsOut s ∷ steps) = ComeBackAtOnce steps
ComeBackAtOnce (WakesUnasked s ∷ steps) = TellsFirst (Resume s) steps × ComeBackAtOnce steps
