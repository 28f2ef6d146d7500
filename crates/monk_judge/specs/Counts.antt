-- What is counted over a run
use Rattle.std.specs.Prelude.{◌≡◌, ℕ, zero, suc, ◌+◌, ◌==◌, Bool, true, false, List, [], ◌∷◌, Option, Some, None, nat_lt, if◌then◌else◌}
use Rattle.monk_logs.specs.declared.text.line.LogLine.TheVariants.{Enter, Resume, Lapse, Leave, Wait, Signal, Broadcast, Until, Act}
use Rattle.monk_judge.specs.declared.place.Place.{Place}
use Rattle.monk_judge.specs.declared.place.Place.TheVariants.{Outside, Active, Waiting, Woken, RanOut}
use Rattle.monk_judge.specs.declared.told.Told.{Told}
use Rattle.monk_judge.specs.declared.told.Told.TheVariants as told
use Rattle.monk_judge.specs.Run.{Setting, State, after, unasked}
use Rattle.monk_judge.specs.declared.step.Step.{Step}
use Rattle.monk_judge.specs.declared.step.Step.TheVariants.{Tells, RunsOut, WakesUnasked}

-- 1 for true, else 0
abbrev pub one : Bool → ℕ
one b = if b then 1 else 0

-- how many of the numbers below `n` pass the test
abbrev pub count : (ℕ → Bool) → ℕ → ℕ
count f zero = 0
count f (suc n) = count f n + one (f n)

-- whether a thread there sleeps on the condition
abbrev pub waits_on : ℕ → Place → Bool
waits_on c Outside = false
waits_on c Active = false
waits_on c (Waiting e) = e == c
waits_on c (Woken e) = false
waits_on c (RanOut e) = false

-- whether it sleeps
abbrev pub is_asleep : Place → Bool
is_asleep Outside = false
is_asleep Active = false
is_asleep (Waiting e) = true
is_asleep (Woken e) = false
is_asleep (RanOut e) = false

-- whether it was woken
abbrev pub is_woken : Place → Bool
is_woken Outside = false
is_woken Active = false
is_woken (Waiting e) = false
is_woken (Woken e) = true
is_woken (RanOut e) = false

-- how many of the first `n` threads sleep on the condition
abbrev pub sleepers_on : ℕ → ℕ → State → ℕ
sleepers_on c n x = count (λ j. waits_on c (x.place j)) n

-- how many sleep
abbrev pub sleepers : ℕ → State → ℕ
sleepers n x = count (λ j. is_asleep (x.place j)) n

-- how many were woken
abbrev pub woken_ones : ℕ → State → ℕ
woken_ones n x = count (λ j. is_woken (x.place j)) n

-- ---- what a step counts in the state before it, with `n` threads

-- how many threads it wakes
abbrev pub wakes : ℕ → State → Step → ℕ
wakes n x (Tells (Enter s) w) = 0
wakes n x (Tells (Resume s) w) = 0
wakes n x (Tells (Lapse s) w) = 0
wakes n x (Tells (Leave s) w) = 0
wakes n x (Tells (Wait s c) w) = 0
wakes n x (Tells (Signal s c) None) = 0
wakes n x (Tells (Signal s c) (Some j)) = 1
wakes n x (Tells (Broadcast s c) w) = sleepers_on c n x
wakes n x (Tells (Until s p) w) = 0
wakes n x (Tells (Act s op r) w) = 0
wakes n x (RunsOut s) = 0
wakes n x (WakesUnasked s) = 0

-- a signal that finds nobody asleep
abbrev pub finds_nobody : ℕ → State → Step → ℕ
finds_nobody n x (Tells (Enter s) w) = 0
finds_nobody n x (Tells (Resume s) w) = 0
finds_nobody n x (Tells (Lapse s) w) = 0
finds_nobody n x (Tells (Leave s) w) = 0
finds_nobody n x (Tells (Wait s c) w) = 0
finds_nobody n x (Tells (Signal s c) None) = 1
finds_nobody n x (Tells (Signal s c) (Some j)) = 0
finds_nobody n x (Tells (Broadcast s c) w) = one (nat_lt (sleepers_on c n x) 1)
finds_nobody n x (Tells (Until s p) w) = 0
finds_nobody n x (Tells (Act s op r) w) = 0
finds_nobody n x (RunsOut s) = 0
finds_nobody n x (WakesUnasked s) = 0

-- a thread that takes the lock before a woken one: it comes in, or comes back from a wait that ran out
abbrev pub passes : ℕ → State → Step → ℕ
passes n x (Tells (Enter s) w) = one (nat_lt 0 (woken_ones n x))
passes n x (Tells (Resume s) w) = 0
passes n x (Tells (Lapse s) w) = one (nat_lt 0 (woken_ones n x))
passes n x (Tells (Leave s) w) = 0
passes n x (Tells (Wait s c) w) = 0
passes n x (Tells (Signal s c) w) = 0
passes n x (Tells (Broadcast s c) w) = 0
passes n x (Tells (Until s p) w) = 0
passes n x (Tells (Act s op r) w) = 0
passes n x (RunsOut s) = 0
passes n x (WakesUnasked s) = 0

-- ---- over a run

-- the sum of what the steps count
abbrev pub total : (State → Step → ℕ) → Setting → State → List Step → ℕ
total counts m x [] = 0
total counts m x (step ∷ steps) = counts x step + total counts m (after m x step) steps

-- ---- what a line told

-- how many threads it woke
abbrev pub wakes_in : Told → ℕ
wakes_in told.Plain = 0
wakes_in told.Passed = 0
wakes_in told.Unheard = 0
wakes_in (told.Woke s) = 1
wakes_in (told.WokeAll n) = n
wakes_in told.Spurious = 0

-- how many threads woke unasked
abbrev pub spurious_in : Told → ℕ
spurious_in told.Plain = 0
spurious_in told.Passed = 0
spurious_in told.Unheard = 0
spurious_in (told.Woke s) = 0
spurious_in (told.WokeAll n) = 0
spurious_in told.Spurious = 1

-- how many threads passed a woken one
abbrev pub passed_in : Told → ℕ
passed_in told.Plain = 0
passed_in told.Passed = 1
passed_in told.Unheard = 0
passed_in (told.Woke s) = 0
passed_in (told.WokeAll n) = 0
passed_in told.Spurious = 0

-- how many signals found nobody asleep
abbrev pub unheard_in : Told → ℕ
unheard_in told.Plain = 0
unheard_in told.Passed = 0
unheard_in told.Unheard = 1
unheard_in (told.Woke s) = 0
unheard_in (told.WokeAll n) = 0
unheard_in told.Spurious = 0

-- what a line tells if a thread that no signal woke takes the lock with it, while `n` woken threads are not back
abbrev pub passing : ℕ → Told
passing n = if nat_lt 0 n then told.Passed else told.Plain

-- the first of the lines that told a wake-up that nobody sent, after the line with index `i`
abbrev pub first_after : Option ℕ → ℕ → Told → Option ℕ
first_after (Some k) i what = Some k
first_after None i told.Plain = None
first_after None i told.Passed = None
first_after None i told.Unheard = None
first_after None i (told.Woke s) = None
first_after None i (told.WokeAll n) = None
first_after None i told.Spurious = Some i

-- the last of the lines that told a signal that found nobody, after the line with index `i`
abbrev pub last_after : Option ℕ → ℕ → Told → Option ℕ
last_after found i told.Plain = found
last_after found i told.Passed = found
last_after found i told.Unheard = Some i
last_after found i (told.Woke s) = found
last_after found i (told.WokeAll n) = found
last_after found i told.Spurious = found

-- what a line told names what its steps count
pub record Names (m : Setting) (x : State) (own : List Step) (what : Told) : Type 0 where
  pub spurious : unasked own ≡ spurious_in what
  pub served : total (wakes m.seats) m x own ≡ wakes_in what
  pub passed : total (passes m.seats) m x own ≡ passed_in what
  pub unheard : total (finds_nobody m.seats) m x own ≡ unheard_in what
