-- The answer to a log that is completed: the text of a history of a kind that tells it, or the line
-- with which none begins
use Rattle.std.specs.Prelude.{◌≡◌, ℕ, ◌<◌, ◌≤◌, ◌^◌, ◌⊎◌, List, length, ◌++◌, Result, Ok, Err, codes}
use Rattle.std.specs.Fmt.{decimal}
use Rattle.monk_kinds.specs.{Names.kind_word, declared.name.KindName.KindName}
use Rattle.monk_object.specs.Names.{most}
use Rattle.monk_history.specs.Text.{Heading, HasText, heading, object_version, text, upgraded_heading}
use Rattle.monk_history.specs.declared.{event.Event.Event, text.fault.ReadFault.ReadFault}
use Rattle.monk_completion.specs.{Blame.blame_number, Blame.blame_word, Completion.Completes, Fits.IsOpen}
use Rattle.monk_completion.specs.{Stand.verdict_on, Verdict.IsMisfit, Verdict.log_monitor}
use Rattle.monk_completion.specs.declared.blame.Blame.{Blame}
use Rattle.monk_completion.specs.declared.verdict.LogVerdict.{LogVerdict, TheVariants.Fits, TheVariants.Misfit}
use Rattle.monk_logs.specs.Log.{HasLogText, LogHeading, log_text, Reading.Log, Reading.log_at}
use Rattle.monk_logs.specs.declared.text.line.LogLine.{LogLine}
use Rattle.monk_commands.specs.Answer.{LineAnswer, too_big, unreadable}

-- ---- the texts of logs

-- the text of a log whose size is within the object's greatest
pub record IsLogOf (input : List ℕ) (h : LogHeading) (log : List LogLine) : Type 0 where
  pub has_text : HasLogText h log
  pub few : length log ≤ 2 ^ 25
  pub whole : input ≡ log_text h log
  pub size : h.size ≤ most h.object

-- some legal history of a monitor of that kind begins with the log
abbrev pub IsOpenText : KindName → List ℕ → Type 0
IsOpenText kind input =
    (h : LogHeading) × ((log : List LogLine) × (IsLogOf input h log × IsOpen (log_monitor kind h) log))

-- none does, and there is a first line with which none does
abbrev pub IsMisfitText : KindName → List ℕ → Type 0
IsMisfitText kind input =
    (h : LogHeading) × ((log : List LogLine) × (IsLogOf input h log × ((n : ℕ) × IsMisfit (log_monitor kind h) log n)))

-- ---- what is written

-- the header of a history of that kind, with the numbers of a log's header, in a version that has every event
abbrev pub completed_heading : KindName → LogHeading → Heading
completed_heading kind h = upgraded_heading (heading (object_version h.object) kind h.seats h.conds h.object h.size)

-- given what writing bytes means: the text of a history is written that is legal and tells the log
pub record IsCompleted (kind : KindName) (h : LogHeading) (log : List LogLine) (Puts : List ℕ → Type 0) : Type 0 where
  pub history : List Event
  pub completes : Completes (log_monitor kind h) log history
  pub has_text : HasText (completed_heading kind h) history
  pub told : Puts (text (completed_heading kind h) history)

-- the words after the kind
abbrev pub misfit_words : ℕ → Blame → List ℕ
misfit_words n why =
    codes " misfit " ++ decimal n ++ codes " " ++ decimal (blame_number why) ++ codes " " ++ blame_word why
    ++ codes "\n"

-- the answer to a log that no monitor of the kind allows
abbrev pub misfit_answer : KindName → ℕ → Blame → LineAnswer
misfit_answer kind n why = record { status = 1; text = kind_word kind ++ misfit_words n why }

-- the answer to a log with that verdict
abbrev pub IsVerdictAnswer : KindName → LogHeading → List LogLine → LogVerdict → ℕ → (List ℕ → Type 0) → Type 0
IsVerdictAnswer kind h log Fits status Puts = (status ≡ 0) × IsCompleted kind h log Puts
IsVerdictAnswer kind h log (Misfit n why) status Puts = (status ≡ 1) × Puts (misfit_answer kind n why).text

-- the answer to a log that was read
abbrev pub IsLogAnswer : KindName → Log → ℕ → (List ℕ → Type 0) → Type 0
IsLogAnswer kind l status Puts =
    ((l.0.size ≤ most l.0.object) × IsVerdictAnswer kind l.0 l.1 (verdict_on (log_monitor kind l.0) l.1) status Puts)
    ⊎ ((most l.0.object < l.0.size) × (status ≡ 2) × Puts too_big.text)

-- the same, or the answer to a text that is no log
abbrev pub IsReadingAnswer : KindName → Result Log ReadFault → ℕ → (List ℕ → Type 0) → Type 0
IsReadingAnswer kind (Ok l) status Puts = IsLogAnswer kind l status Puts
IsReadingAnswer kind (Err f) status Puts = (status ≡ 2) × Puts (unreadable f).text

-- the answer to bytes
abbrev pub IsAnswerToLog : KindName → List ℕ → ℕ → (List ℕ → Type 0) → Type 0
IsAnswerToLog kind input status Puts = IsReadingAnswer kind (log_at (2 ^ 25) input) status Puts
