-- Which history completes a log
use Rattle.std.specs.Prelude.{◌≡◌, ◌≢◌, ◌≤◌, List, length, drop, [], ◌∷◌, ◌++◌, Option, Some, None, if◌then◌else◌}
use Rattle.std.specs.List.{AllByRecursion, last_or}
use Rattle.monk_kinds.specs.declared.mode.Mode.{Mode}
use Rattle.monk_history.specs.Meaning.{Legal.IsLegal, Monitor.Monitor, Situation.situation}
use Rattle.monk_history.specs.Meaning.Events.{next_of, returns_at_once, via_of}
use Rattle.monk_history.specs.declared.event.{Event.Event, Next.Next, Via.TheVariants.Free}
use Rattle.monk_completion.specs.declared.completion.Completion.TheVariants as completion
use Rattle.monk_completion.specs.declared.verdict.LogVerdict.TheVariants as verdict
use Rattle.monk_completion.specs.{Ending.unwished_next, Erasure.erasure, Stand.verdict_on}
use Rattle.monk_completion.specs.declared.{completion.Completion.Completion, verdict.LogVerdict.LogVerdict}
use Rattle.monk_logs.specs.declared.text.line.LogLine.{LogLine}
use Rattle.monk_logs.specs.declared.text.line.LogLine.TheVariants.{Enter, Resume, Lapse, Leave, Wait, Signal, Broadcast}
use Rattle.monk_logs.specs.declared.text.line.LogLine.TheVariants.{Until, Act}

-- the line by which a signaller leaves
abbrev pub leaving : Option LogLine → List LogLine
leaving None = []
leaving (Some (Enter s)) = []
leaving (Some (Resume s)) = []
leaving (Some (Lapse s)) = []
leaving (Some (Leave s)) = []
leaving (Some (Wait s c)) = []
leaving (Some (Signal s c)) = Leave s ∷ []
leaving (Some (Broadcast s c)) = []
leaving (Some (Until s p)) = []
leaving (Some (Act s op r)) = []

-- what completes the last line: under immediate return a signal has two lines
abbrev pub other_half : Mode → List LogLine → List LogLine
other_half k log = if returns_at_once k then leaving (last_or None log) else []

-- it is not an enter of a seat that found the monitor free
abbrev pub IsNoFreeEnter : Event → Type 0
IsNoFreeEnter e = via_of e ≢ Some Free

-- after the first event every seat that enters is handed the monitor
abbrev pub AreHandedOver : List Event → Type 0
AreHandedOver h = AllByRecursion IsNoFreeEnter (drop 1 h)

-- the history is legal and tells the log, with no more events than the log has lines. A seat is handed the
-- monitor wherever it can be. If the log ends with a release, its choice is the one without a wish
pub record Completes (m : Monitor) (log : List LogLine) (h : List Event) : Type 0 where
  pub legal : IsLegal m h
  pub erases : erasure h ≡ log ++ other_half m.kind.mode log
  pub few : length h ≤ length log
  pub handed : AreHandedOver h
  pub last_choice : (before : List Event) (e : Event) (x : Next) → h ≡ before ++ e ∷ [] → next_of e ≡ Some x
      → x ≡ unwished_next m.kind m.object (situation m before) e

-- if a completion is a history, it completes the log
abbrev pub IsCompletionOf : Monitor → List LogLine → Completion → Type 0
IsCompletionOf m log (completion.History events) = Completes m log events.items
IsCompletionOf m log (completion.Misfit line why) = Unit {0}

-- the verdict in a completion
abbrev pub verdict_in : Completion → LogVerdict
verdict_in (completion.History events) = verdict.Fits
verdict_in (completion.Misfit line why) = verdict.Misfit line why

-- what is found for a log: the verdict on it, and a history that completes it if it fits
abbrev pub IsFound : Monitor → List LogLine → Completion → Type 0
IsFound m log c = (verdict_in c ≡ verdict_on m log) × IsCompletionOf m log c
