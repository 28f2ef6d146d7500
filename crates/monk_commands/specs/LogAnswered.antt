-- The answer to a log
use Rattle.std.specs.Prelude.{◌≡◌, ◌==◌, ◌^◌, ℕ, Bool, List, ◌++◌, Option, MatchOption, Result, Ok, Err, codes}
use Rattle.std.specs.List.{starts_with}
use Rattle.monk_kinds.specs.declared.name.KindName.{KindName}
use Rattle.monk_history.specs.declared.text.fault.ReadFault.{ReadFault}
use Rattle.monk_judge.specs.declared.waits_for.WaitsFor.{WaitsFor}
use Rattle.monk_logs.specs.{Log.LogHeading, Log.Reading.Log, Log.Reading.log_at, declared.text.line.LogLine.LogLine}
use Rattle.monk_commands.specs.{Answer.unreadable, LogRefused.refusal_line, LogRefused.refusal_of}
use Rattle.monk_commands.specs.LogFound.{IsFinding, finding_line, finding_status}
use Rattle.monk_commands.specs.declared.question.Question.{Question}
use Rattle.monk_commands.specs.declared.logs.{finding.Finding.Finding, refusal.LogRefusal.LogRefusal}
use Rattle.monk_commands.specs.declared.logs.view.LogView.{LogView}
use Rattle.monk_commands.specs.declared.logs.view.LogView.TheVariants.{Line, Json, Explanation}

-- the first word of a text is `log`
abbrev pub is_log_text : List ℕ → Bool
is_log_text input = starts_with (λ (a b : ℕ). a == b) input (codes "log ")

-- the text begins with `front`
pub record BeginsWith (front text : List ℕ) : Type 0 where
  pub rest : List ℕ
  pub is : text ≡ front ++ rest

-- the text tells the finding: as its line, or as sentences after its line; nothing is said about the form for other
-- programs
abbrev pub Tells : LogView → Finding → List ℕ → Type 0
Tells Line f text = text ≡ finding_line f
Tells Json f text = Unit {0}
Tells Explanation f text = BeginsWith (finding_line f) text

-- a line that says why nothing is found; nothing is said about the form for other programs
abbrev pub Says : LogView → List ℕ → List ℕ → Type 0
Says Line line text = text ≡ line
Says Json line text = Unit {0}
Says Explanation line text = text ≡ line

-- the answer is a finding of the log, with its status
pub record IsJudged (view : LogView) (means : List WaitsFor) (ended : Bool) (h : LogHeading) (lines : List LogLine)
    (status : ℕ) (text : List ℕ) : Type 0 where
  pub finding : Finding
  pub found : IsFinding means ended h lines finding
  pub status_is : status ≡ finding_status finding
  pub tells : Tells view finding text

-- the log is refused
abbrev pub IsRefused : LogView → LogRefusal → ℕ → List ℕ → Type 0
IsRefused view r status text = (status ≡ 2) × Says view (refusal_line r) text

-- the answer to a log that was read
abbrev pub IsLogAnswer : LogView → Option KindName → List WaitsFor → Bool → LogHeading → List LogLine → ℕ
    → List ℕ → Type 0
IsLogAnswer view k means ended h lines status text =
    MatchOption (refusal_of k means h lines) (IsJudged view means ended h lines status text)
    (λ r. IsRefused view r status text)

-- the answer to what was read as a log
abbrev pub IsLogReading : LogView → Question → Result Log ReadFault → ℕ → List ℕ → Type 0
IsLogReading view q (Ok l) status text =
    IsLogAnswer view q.kind q.means.now q.has_ended l.0 l.1 status text
IsLogReading view q (Err f) status text = (status ≡ 2) × Says view (unreadable f).text text

-- the answer to the text of a log
abbrev pub IsAnswerToLog : LogView → Question → List ℕ → ℕ → List ℕ → Type 0
IsAnswerToLog view q input status text = IsLogReading view q (log_at (2 ^ 25) input) status text
