-- The run that the judge takes, line by line: a wait runs out at once if its thread's next line is
-- a `lapse`, and a thread that nobody woke wakes just before it comes back
use Rattle.std.specs.Prelude.{◌≡◌, ℕ, ◌<◌, Bool, true, false, List, [], ◌∷◌, ◌++◌, Option, None}
use Rattle.monk_logs.specs.declared.text.line.LogLine.{LogLine}
use Rattle.monk_logs.specs.declared.text.line.LogLine.TheVariants.{Enter, Resume, Lapse, Leave, Wait, Signal, Broadcast, Until, Act}
use Rattle.monk_judge.specs.declared.place.Place.{Place}
use Rattle.monk_judge.specs.declared.place.Place.TheVariants.{Outside, Active, Waiting, Woken, RanOut}
use Rattle.monk_judge.specs.Run.{Setting, State, May, MaySignal, WakesRightly, after}
use Rattle.monk_judge.specs.declared.step.Step.{Step}
use Rattle.monk_judge.specs.declared.step.Step.TheVariants.{Tells, RunsOut, WakesUnasked}

-- whether a thread in that place can come back by a `resume`
abbrev pub CanResume : Place → Type 0
CanResume Outside = ⊥
CanResume Active = ⊥
CanResume (Waiting c) = Unit {0}
CanResume (Woken c) = Unit {0}
CanResume (RanOut c) = ⊥

-- what the judge requires of a line; whom a signal woke and how a wait ended don't matter
abbrev pub CanStand : Setting → State → LogLine → Type 0
CanStand m x (Enter s) = May m x (Tells (Enter s) None)
CanStand m x (Resume s) = (s < m.seats) × (x.lock ≡ None) × CanResume (x.place s)
CanStand m x (Lapse s) = May m x (Tells (Lapse s) None)
CanStand m x (Leave s) = May m x (Tells (Leave s) None)
CanStand m x (Wait s c) = May m x (Tells (Wait s c) None)
CanStand m x (Signal s c) = MaySignal m x s c
CanStand m x (Broadcast s c) = May m x (Tells (Broadcast s c) None)
CanStand m x (Until s p) = ⊥
CanStand m x (Act s op r) = May m x (Tells (Act s op r) None)

-- the silent step before a thread in that place comes back
abbrev pub waking : ℕ → Place → List Step
waking s Outside = []
waking s Active = []
waking s (Waiting c) = WakesUnasked s ∷ []
waking s (Woken c) = []
waking s (RanOut c) = []

-- the silent step after a wait
abbrev pub running_out : ℕ → Bool → List Step
running_out s true = RunsOut s ∷ []
running_out s false = []

-- the steps of a line, by whom a signal wakes and whether a wait runs out at once
abbrev pub steps_at : State → LogLine → Option ℕ → Bool → List Step
steps_at x (Enter s) w lapses = Tells (Enter s) None ∷ []
steps_at x (Resume s) w lapses = waking s (x.place s) ++ Tells (Resume s) None ∷ []
steps_at x (Lapse s) w lapses = Tells (Lapse s) None ∷ []
steps_at x (Leave s) w lapses = Tells (Leave s) None ∷ []
steps_at x (Wait s c) w lapses = Tells (Wait s c) None ∷ running_out s lapses
steps_at x (Signal s c) w lapses = Tells (Signal s c) w ∷ []
steps_at x (Broadcast s c) w lapses = Tells (Broadcast s c) None ∷ []
steps_at x (Until s p) w lapses = []
steps_at x (Act s op r) w lapses = Tells (Act s op r) None ∷ []

-- the thread that the line wakes may be woken
abbrev pub IsRight : State → LogLine → Option ℕ → Type 0
IsRight x (Enter s) w = Unit {0}
IsRight x (Resume s) w = Unit {0}
IsRight x (Lapse s) w = Unit {0}
IsRight x (Leave s) w = Unit {0}
IsRight x (Wait s c) w = Unit {0}
IsRight x (Signal s c) w = WakesRightly x c w
IsRight x (Broadcast s c) w = Unit {0}
IsRight x (Until s p) w = Unit {0}
IsRight x (Act s op r) w = Unit {0}

-- where the steps lead
abbrev pub after_all : Setting → State → List Step → State
after_all m x [] = x
after_all m x (step ∷ steps) = after_all m (after m x step) steps
