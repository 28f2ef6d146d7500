-- The last line of a log about a seat or a condition
use Rattle.std.specs.Prelude.{ℕ, suc, ◌==◌, Bool, false, List, [], ◌∷◌, Option, Some, None, if◌then◌else◌}
use Rattle.std.specs.Option.{option_or}
use Rattle.monk_logs.specs.Log.{line_seat}
use Rattle.monk_logs.specs.declared.subject.Subject.{Subject}
use Rattle.monk_logs.specs.declared.subject.Subject.TheVariants.{Seat, Condition}
use Rattle.monk_logs.specs.declared.text.line.LogLine.{LogLine}
use Rattle.monk_logs.specs.declared.text.line.LogLine.TheVariants.{Enter, Resume, Lapse, Leave, Wait, Signal, Broadcast, Until, Act}

-- whether the line is a signal to that condition, to one or to all
abbrev pub signals_to : ℕ → LogLine → Bool
signals_to c (Enter s) = false
signals_to c (Resume s) = false
signals_to c (Lapse s) = false
signals_to c (Leave s) = false
signals_to c (Wait s d) = false
signals_to c (Signal s d) = d == c
signals_to c (Broadcast s d) = d == c
signals_to c (Until s p) = false
signals_to c (Act s op r) = false

-- whether the line is about it
abbrev pub has : Subject → LogLine → Bool
has (Seat s) l = line_seat l == s
has (Condition c) l = signals_to c l

-- the number of the last of these lines that is such a line, if n lines come before them
unfoldable pub last_behind : (LogLine → Bool) → ℕ → List LogLine → Option ℕ
last_behind is_such n [] = None
last_behind is_such n (l ∷ log) =
    option_or (last_behind is_such (suc n) log) (if is_such l then Some (suc n) else None)

-- the number of the last line about it, counted from 1
abbrev pub last_line : Subject → List LogLine → Option ℕ
last_line it log = last_behind (has it) 0 log
