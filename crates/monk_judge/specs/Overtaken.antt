-- Woken threads that come back after a rival, and what they do next
use Rattle.std.specs.Prelude.{◌≡◌, ℕ, ◌<◌, ◌≤◌, ◌==◌, ◌&&◌, Bool, true, false, List, Option, length}
use Rattle.std.specs.List.{list_any}
use Rattle.monk_logs.specs.{LastLine.signals_to, Log.line_seat}
use Rattle.monk_logs.specs.declared.text.line.LogLine.{LogLine}
use Rattle.monk_logs.specs.declared.text.line.LogLine.TheVariants.{Enter, Resume, Lapse, Leave, Wait, Signal, Broadcast}
use Rattle.monk_logs.specs.declared.text.line.LogLine.TheVariants.{Until, Act}
use Rattle.monk_judge.specs.{declared.place.Place.TheVariants.Woken, Among.AreMany, Among.NamesFirst, Ends.is_resume}
use Rattle.monk_judge.specs.{Holding.takes_lock, Moments.Moment, Moments.moment}

-- the seat of the line with this index
abbrev pub seat_at : List Moment → ℕ → ℕ
seat_at all k = line_seat (moment all k).line

-- ---- rivals

-- whether the seat waits on the condition with the line
abbrev pub is_wait_of : ℕ → ℕ → LogLine → Bool
is_wait_of s c (Enter t) = false
is_wait_of s c (Resume t) = false
is_wait_of s c (Lapse t) = false
is_wait_of s c (Leave t) = false
is_wait_of s c (Wait t d) = t == s && d == c
is_wait_of s c (Signal t d) = false
is_wait_of s c (Broadcast t d) = false
is_wait_of s c (Until t p) = false
is_wait_of s c (Act t op r) = false

-- whether it does so somewhere in the log
abbrev pub waits_in : List LogLine → ℕ → ℕ → Bool
waits_in log s c = list_any (is_wait_of s c) log

-- with line `by` a thread comes in, and before line n nobody takes the lock after it, or signals to the condition
pub record IsVisit (all : List Moment) (by n c : ℕ) : Type 0 where
  pub before : by < n
  pub comes : (moment all by).line ≡ Enter (seat_at all by)
  pub alone : (i : ℕ) → by < i → i < n → takes_lock (moment all i).line ≡ false
  pub quiet : (i : ℕ) → by < i → i < n → signals_to c (moment all i).line ≡ false

-- the thread leaves with line `end`, and waits on that condition elsewhere in the log: it may have taken what was there
pub record IsRival (log : List LogLine) (all : List Moment) (by end c : ℕ) : Type 0 where
  pub visit : IsVisit all by end c
  pub leaves : (moment all end).line ≡ Leave (seat_at all by)
  pub waits : waits_in log (seat_at all by) c ≡ true

-- ---- who is overtaken

-- before line n a rival came and went, and since it came the seat was woken on the condition
pub record IsPassed (log : List LogLine) (all : List Moment) (n s c : ℕ) : Type 0 where
  pub by : ℕ
  pub end : ℕ
  pub before : end < n
  pub rival : IsRival log all by end c
  pub woken : (i : ℕ) → by ≤ i → i < n → (moment all i).behind.place s ≡ Woken c

-- with line `k` a thread comes back that was woken on the condition and that a rival overtook
pub record IsOvertakenOn (log : List LogLine) (all : List Moment) (c k : ℕ) : Type 0 where
  pub back : is_resume (moment all k).line ≡ true
  pub passed : IsPassed log all k (seat_at all k) c

-- the same on some condition
pub record IsOvertaken (log : List LogLine) (all : List Moment) (k : ℕ) : Type 0 where
  pub cond : ℕ
  pub on : IsOvertakenOn log all cond k

-- ---- what it does next

-- whether the object refused the line's act, as it does if a thread tests and can't go on
abbrev pub is_refused : LogLine → Bool
is_refused (Enter s) = false
is_refused (Resume s) = false
is_refused (Lapse s) = false
is_refused (Leave s) = false
is_refused (Wait s c) = false
is_refused (Signal s c) = false
is_refused (Broadcast s c) = false
is_refused (Until s p) = false
is_refused (Act s op r) = r == 0

-- the line is the seat's, and no refused act
abbrev pub GoesOnBy : LogLine → ℕ → Type 0
GoesOnBy l s = (line_seat l ≡ s) × (is_refused l ≡ false)

-- line j is the next line of the thread of line k that is no refused act
pub record IsNext (all : List Moment) (k j : ℕ) : Type 0 where
  pub behind : k < j
  pub within : j < length all
  pub same : GoesOnBy (moment all j).line (seat_at all k)
  pub none : (i : ℕ) → k < i → i < j → GoesOnBy (moment all i).line (seat_at all k) → ⊥

-- and the next thing that the thread does is to wait on that condition again
pub record WaitsAgain (log : List LogLine) (all : List Moment) (k : ℕ) : Type 0 where
  pub cond : ℕ
  pub on : IsOvertakenOn log all cond k
  pub at : ℕ
  pub next : IsNext all k at
  pub waits : (moment all at).line ≡ Wait (seat_at all k) cond

-- or it isn't
abbrev pub GoesOn : List LogLine → List Moment → ℕ → Type 0
GoesOn log all k = IsOvertaken log all k × (WaitsAgain log all k → ⊥)

-- `back` threads come back so, `waiting` of these wait again, and `goes` is the first that doesn't
pub record CountsOvertaken (log : List LogLine) (all : List Moment) (back waiting : ℕ) (goes : Option ℕ) : Type 0 where
  pub many : AreMany (λ k. IsOvertaken log all k) (length all) back
  pub again : AreMany (λ k. WaitsAgain log all k) (length all) waiting
  pub first : NamesFirst (λ k. GoesOn log all k) (length all) goes
