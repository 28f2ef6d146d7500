-- Seats that a signal crossed on their way to sleep. The last line of such a seat is a wait, and it still sleeps.
-- Before that wait, and since the seat came in or went on, another seat signalled to the condition. So the signal came
-- too early for the wait
use Rattle.std.specs.Prelude.{ℕ, zero, suc, ◌+◌, ◌^◌, ◌==◌, ◌&&◌, not, max, Bool, false, if◌then◌else◌}
use Rattle.std.specs.Prelude.{List, [], ◌∷◌, length, reverse, Option, Some, None}
use Rattle.monk_logs.specs.Log.{line_seat}
use Rattle.monk_logs.specs.LastLine.{signals_to}
use Rattle.monk_logs.specs.declared.crossed.Crossed.{Crossed}
use Rattle.monk_logs.specs.declared.text.line.LogLine.{LogLine}
use Rattle.monk_logs.specs.declared.text.line.LogLine.TheVariants.{Enter, Resume, Lapse, Leave, Wait, Signal, Broadcast, Until, Act}

-- ---- one seat

-- whether the seat comes in with the line, or goes on
abbrev pub begins : ℕ → LogLine → Bool
begins s (Enter t) = t == s
begins s (Resume t) = t == s
begins s (Lapse t) = t == s
begins s (Leave t) = false
begins s (Wait t c) = false
begins s (Signal t c) = false
begins s (Broadcast t c) = false
begins s (Until t p) = false
begins s (Act t op r) = false

-- whether the line is a signal to that condition by another seat
abbrev pub crosses : ℕ → ℕ → LogLine → Bool
crosses s c l = signals_to c l && not (line_seat l == s)

-- the number of the last such signal since the seat came in or went on, if these are the lines, the last first
unfoldable pub crossing_in : ℕ → ℕ → List LogLine → Option ℕ
crossing_in s c [] = None
crossing_in s c (l ∷ before) =
    if crosses s c l then Some (suc (length before)) else if begins s l then None else crossing_in s c before

-- the number of the signal that crossed the line, if it is a wait; these lines come before it, the last first
abbrev pub crossing_at : LogLine → List LogLine → Option ℕ
crossing_at (Enter s) before = None
crossing_at (Resume s) before = None
crossing_at (Lapse s) before = None
crossing_at (Leave s) before = None
crossing_at (Wait s c) before = crossing_in s c before
crossing_at (Signal s c) before = None
crossing_at (Broadcast s c) before = None
crossing_at (Until s p) before = None
crossing_at (Act s op r) before = None

-- the same for the last line of a seat, if these are the lines, the last first
unfoldable pub crossing : ℕ → List LogLine → Option ℕ
crossing s [] = None
crossing s (l ∷ before) = if line_seat l == s then crossing_at l before else crossing s before

-- ---- all seats

-- adds a seat, by the number of the signal that crossed it: how many seats were crossed, and the last signal
abbrev pub with_seat : Option ℕ → Option Crossed → Option Crossed
with_seat None found = found
with_seat (Some n) None = Some (record { seats = 1; line = n })
with_seat (Some n) (Some x) = Some (record { seats = x.seats + 1; line = max x.line n })

-- those of the seats below a number that sleep, if these are the lines, the last first
unfoldable pub crossed_below : (ℕ → Bool) → List LogLine → ℕ → Option Crossed
crossed_below sleeps before zero = None
crossed_below sleeps before (suc s) =
    with_seat (if sleeps s then crossing s before else None) (crossed_below sleeps before s)

-- how many seats a line can name
abbrev pub named_seats : ℕ
named_seats = 2 ^ 8

-- those of the seats that still sleep which a signal crossed on their way to sleep
abbrev pub crossed_of : (ℕ → Bool) → List LogLine → Option Crossed
crossed_of sleeps log = crossed_below sleeps (reverse log) named_seats

-- how many such seats there are
abbrev pub number_crossed : Option Crossed → ℕ
number_crossed None = 0
number_crossed (Some x) = x.seats
