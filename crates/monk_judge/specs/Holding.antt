-- Who has the lock, and since which line
use Rattle.std.specs.Prelude.{◌≡◌, ℕ, Bool, true, false, List, Option, Some, None, length, slice_index_or}
use Rattle.monk_logs.specs.Log.{line_seat}
use Rattle.monk_logs.specs.declared.text.line.LogLine.{LogLine}
use Rattle.monk_logs.specs.declared.text.line.LogLine.TheVariants.{Enter, Resume, Lapse, Leave, Wait, Signal, Broadcast, Until, Act}
use Rattle.monk_judge.specs.declared.holder.Holder.{Holder}
use Rattle.monk_judge.specs.Among.{NamesLast}

-- whether a thread takes the lock with the line
abbrev pub takes_lock : LogLine → Bool
takes_lock (Enter s) = true
takes_lock (Resume s) = true
takes_lock (Lapse s) = true
takes_lock (Leave s) = false
takes_lock (Wait s c) = false
takes_lock (Signal s c) = false
takes_lock (Broadcast s c) = false
takes_lock (Until s p) = false
takes_lock (Act s op r) = false

-- it names the last of the lines, from 0, with which a thread takes the lock
abbrev pub NamesLastTaking : List LogLine → Option ℕ → Type 0
NamesLastTaking lines found = NamesLast (λ k. takes_lock (slice_index_or lines k (Enter 0)) ≡ true) (length lines) found

-- it says who has the lock, and the last line with which a thread took it: that thread's line
abbrev pub IsHolder : List LogLine → Option ℕ → Option Holder → Type 0
IsHolder lines lock None = lock ≡ None
IsHolder lines lock (Some h) = (lock ≡ Some h.seat) × NamesLastTaking lines (Some h.since)
    × (line_seat (slice_index_or lines h.since (Enter 0)) ≡ h.seat)

-- who has the lock, by its holder and the last line that takes it
abbrev pub holder_by : Option ℕ → Option ℕ → Option Holder
holder_by None found = None
holder_by (Some s) None = None
holder_by (Some s) (Some k) = Some (record { seat = s; since = k })
