-- The steps of a line, by what it told
use Rattle.std.specs.Prelude.{ℕ, List, [], ◌∷◌, Option, None}
use Rattle.monk_logs.specs.declared.text.line.LogLine.{LogLine}
use Rattle.monk_logs.specs.declared.text.line.LogLine.TheVariants.{Enter, Resume, Lapse, Leave, Wait, Signal, Broadcast}
use Rattle.monk_logs.specs.declared.text.line.LogLine.TheVariants.{Until, Act}
use Rattle.monk_judge.specs.declared.told.Told.TheVariants as told
use Rattle.monk_judge.specs.{declared.step.Step.Step, declared.step.Step.TheVariants.Tells}
use Rattle.monk_judge.specs.{declared.step.Step.TheVariants.WakesUnasked, declared.told.Told.Told, Shown.whom}

-- the thread that the line woke
abbrev pub woken_by : LogLine → Told → Option ℕ
woken_by (Enter s) what = None
woken_by (Resume s) what = None
woken_by (Lapse s) what = None
woken_by (Leave s) what = None
woken_by (Wait s c) what = None
woken_by (Signal s c) what = whom what
woken_by (Broadcast s c) what = None
woken_by (Until s p) what = None
woken_by (Act s op r) what = None

-- the steps of a thread that comes back
abbrev pub resume_steps : ℕ → Told → List Step
resume_steps s told.Plain = Tells (Resume s) None ∷ []
resume_steps s told.Passed = Tells (Resume s) None ∷ []
resume_steps s told.Unheard = Tells (Resume s) None ∷ []
resume_steps s (told.Woke j) = Tells (Resume s) None ∷ []
resume_steps s (told.WokeAll n) = Tells (Resume s) None ∷ []
resume_steps s told.Spurious = WakesUnasked s ∷ Tells (Resume s) None ∷ []
