-- What a mutex and its condition variables may do, as POSIX says, and what a recorder writes down of it
use Rattle.std.specs.Prelude.{◌≡◌, ℕ, ◌+◌, ◌<◌, ◌==◌, ◌⊎◌, List, [], ◌∷◌, Option, Some, None, if◌then◌else◌}
use Rattle.monk_object.specs.Object.{Object}
use Rattle.monk_logs.specs.declared.text.line.LogLine.{LogLine}
use Rattle.monk_logs.specs.declared.text.line.LogLine.TheVariants.{Enter, Resume, Lapse, Leave, Wait, Signal, Broadcast, Until, Act}
use Rattle.monk_judge.specs.declared.place.Place.{Place}
use Rattle.monk_judge.specs.declared.place.Place.TheVariants.{Outside, Active, Waiting, Woken, RanOut}
use Rattle.monk_judge.specs.declared.step.Step.{Step}
use Rattle.monk_judge.specs.declared.step.Step.TheVariants.{Tells, RunsOut, WakesUnasked}

-- how many threads and conditions there are, and what the lock guards
pub record Setting : Type 0 where
  pub seats : ℕ
  pub conds : ℕ
  pub object : Object

-- the setting with these numbers and that object
abbrev pub setting : ℕ → ℕ → Object → Setting
setting seats conds o = record { seats = seats; conds = conds; object = o }

-- who holds the lock, where each thread is, and the data
pub record State : Type 0 where
  pub lock : Option ℕ
  pub place : ℕ → Place
  pub data_now : List ℕ

-- at first: nobody has come in
abbrev pub opening : List ℕ → State
opening d = record { lock = None; place = λ s. Outside; data_now = d }

-- ---- steps

-- a signal may be sent by the holder of the lock and by a thread outside
pub record MaySignal (m : Setting) (x : State) (s c : ℕ) : Type 0 where
  pub seat : s < m.seats
  pub cond : c < m.conds
  pub sender : (x.lock ≡ Some s) ⊎ (x.place s ≡ Outside)

-- a signal wakes one thread that sleeps on the condition; it wakes nobody only if nobody sleeps there
abbrev pub WakesRightly : State → ℕ → Option ℕ → Type 0
WakesRightly x c None = (j : ℕ) → x.place j ≡ Waiting c → ⊥
WakesRightly x c (Some j) = x.place j ≡ Waiting c

-- a thread sleeps
abbrev pub Sleeps : Place → Type 0
Sleeps Outside = ⊥
Sleeps Active = ⊥
Sleeps (Waiting c) = Unit {0}
Sleeps (Woken c) = ⊥
Sleeps (RanOut c) = ⊥

-- it was woken
abbrev pub IsWoken : Place → Type 0
IsWoken Outside = ⊥
IsWoken Active = ⊥
IsWoken (Waiting c) = ⊥
IsWoken (Woken c) = Unit {0}
IsWoken (RanOut c) = ⊥

-- its wait ran out
abbrev pub HasRunOut : Place → Type 0
HasRunOut Outside = ⊥
HasRunOut Active = ⊥
HasRunOut (Waiting c) = ⊥
HasRunOut (Woken c) = ⊥
HasRunOut (RanOut c) = Unit {0}

-- when the step may happen
abbrev pub May : Setting → State → Step → Type 0
May m x (Tells (Enter s) w) = (s < m.seats) × (x.lock ≡ None) × (x.place s ≡ Outside)
May m x (Tells (Resume s) w) = (s < m.seats) × (x.lock ≡ None) × IsWoken (x.place s)
May m x (Tells (Lapse s) w) = (s < m.seats) × (x.lock ≡ None) × HasRunOut (x.place s)
May m x (Tells (Leave s) w) = (s < m.seats) × (x.lock ≡ Some s)
May m x (Tells (Wait s c) w) = (s < m.seats) × (c < m.conds) × (x.lock ≡ Some s)
May m x (Tells (Signal s c) w) = MaySignal m x s c × WakesRightly x c w
May m x (Tells (Broadcast s c) w) = MaySignal m x s c
May m x (Tells (Until s p) w) = ⊥
May m x (Tells (Act s op r) w) = (s < m.seats) × (op.code < m.object.codes) × (x.lock ≡ Some s)
    × (r ≡ m.object.reply x.data_now op)
May m x (RunsOut s) = Sleeps (x.place s)
May m x (WakesUnasked s) = Sleeps (x.place s)

-- ---- what a step does

-- the places, with the thread at that place
abbrev pub with_place : ℕ → Place → (ℕ → Place) → ℕ → Place
with_place s p place = λ j. if j == s then p else place j

-- a thread that sleeps on the condition is woken
abbrev pub woken : ℕ → Place → Place
woken c Outside = Outside
woken c Active = Active
woken c (Waiting d) = if d == c then Woken d else Waiting d
woken c (Woken d) = Woken d
woken c (RanOut d) = RanOut d

-- its wait runs out
abbrev pub run_out : Place → Place
run_out Outside = Outside
run_out Active = Active
run_out (Waiting c) = RanOut c
run_out (Woken c) = Woken c
run_out (RanOut c) = RanOut c

-- it is woken unasked
abbrev pub woken_unasked : Place → Place
woken_unasked Outside = Outside
woken_unasked Active = Active
woken_unasked (Waiting c) = Woken c
woken_unasked (Woken c) = Woken c
woken_unasked (RanOut c) = RanOut c

-- the thread takes the lock
abbrev pub takes : ℕ → State → State
takes s x = record { lock = Some s; place = with_place s Active x.place; data_now = x.data_now }

-- it lets the lock go, and is in that place then
abbrev pub lets_go : ℕ → Place → State → State
lets_go s p x = record { lock = None; place = with_place s p x.place; data_now = x.data_now }

-- only places change
abbrev pub moved : (ℕ → Place) → State → State
moved place x = record { lock = x.lock; place = place; data_now = x.data_now }

-- the places after a signal that woke that thread
abbrev pub signalled : ℕ → Option ℕ → (ℕ → Place) → ℕ → Place
signalled c None place = place
signalled c (Some j) place = with_place j (Woken c) place

-- the state after a step
abbrev pub after : Setting → State → Step → State
after m x (Tells (Enter s) w) = takes s x
after m x (Tells (Resume s) w) = takes s x
after m x (Tells (Lapse s) w) = takes s x
after m x (Tells (Leave s) w) = lets_go s Outside x
after m x (Tells (Wait s c) w) = lets_go s (Waiting c) x
after m x (Tells (Signal s c) w) = moved (signalled c w x.place) x
after m x (Tells (Broadcast s c) w) = moved (λ j. woken c (x.place j)) x
after m x (Tells (Until s p) w) = x
after m x (Tells (Act s op r) w) = record { lock = x.lock; place = x.place; data_now = m.object.after x.data_now op }
after m x (RunsOut s) = moved (with_place s (run_out (x.place s)) x.place) x
after m x (WakesUnasked s) = moved (with_place s (woken_unasked (x.place s)) x.place) x

-- ---- runs

-- each step may happen in the state before it
abbrev pub IsRun : Setting → State → List Step → Type 0
IsRun m x [] = Unit {0}
IsRun m x (step ∷ steps) = May m x step × IsRun m (after m x step) steps

-- what a recorder writes for a run
abbrev pub lines_of : List Step → List LogLine
lines_of [] = []
lines_of (Tells l w ∷ steps) = l ∷ lines_of steps
lines_of (RunsOut s ∷ steps) = lines_of steps
lines_of (WakesUnasked s ∷ steps) = lines_of steps

-- how many wake-ups nobody sent
abbrev pub unasked : List Step → ℕ
unasked [] = 0
unasked (Tells l w ∷ steps) = unasked steps
unasked (RunsOut s ∷ steps) = unasked steps
unasked (WakesUnasked s ∷ steps) = unasked steps + 1
