-- What the verdict on a log says exactly
use Rattle.std.specs.Prelude.{◌≡◌, ◌↔◌, ℕ, ◌-◌, List, Option, Some, None, take}
use Rattle.monk_kinds.specs.{declared.mode.Rules.Rules, declared.name.KindName.KindName, Names.rules_named}
use Rattle.monk_object.specs.Names.{meaning_named, opening_named}
use Rattle.monk_history.specs.Meaning.Monitor.{Monitor, monitor}
use Rattle.monk_logs.specs.{Log.LogHeading, declared.text.line.LogLine.LogLine}
use Rattle.monk_completion.specs.Fits.{IsOpen}
use Rattle.monk_completion.specs.declared.verdict.LogVerdict.{LogVerdict, TheVariants.Fits, TheVariants.Misfit}

-- the monitor of the header, with those rules
abbrev pub header_monitor : LogHeading → Rules → Monitor
header_monitor h k = monitor k h.seats h.conds (meaning_named h.object) (opening_named h.object h.size)

-- the monitor of the header, of that kind
abbrev pub log_monitor : KindName → LogHeading → Monitor
log_monitor kind h = header_monitor h (rules_named kind)

-- line n, counted from 1, is the first with which no legal history begins
pub record IsMisfit (m : Monitor) (log : List LogLine) (n : ℕ) : Type 0 where
  pub open_before : IsOpen m (take (n - 1) log)
  pub not_open : IsOpen m (take n log) → ⊥

-- the verdict is exact for the legal histories of the monitor
abbrev pub IsVerdictOn : Monitor → List LogLine → LogVerdict → Type 0
IsVerdictOn m log Fits = IsOpen m log
IsVerdictOn m log (Misfit n why) = IsMisfit m log n

-- the verdict is Fits exactly if some legal history begins with the log
abbrev pub FitsExactly : Monitor → List LogLine → LogVerdict → Type 0
FitsExactly m log v = (v ≡ Fits) ↔ IsOpen m log

-- at which line it misfits
abbrev pub misfit_at : LogVerdict → Option ℕ
misfit_at Fits = None
misfit_at (Misfit n why) = Some n

-- it misfits exactly at the first line with which none begins
abbrev pub MisfitsExactly : Monitor → List LogLine → LogVerdict → Type 0
MisfitsExactly m log v = (n : ℕ) → (misfit_at v ≡ Some n) ↔ IsMisfit m log n
