-- The answer to a text that is judged: a finding for a log, the verdict under one kind or each for a history
use Rattle.std.specs.Prelude.{◌≡◌, ◌==◌, ◌^◌, ℕ, Bool, List, [], ◌∷◌, ◌++◌, Option, Some, None, codes, if◌then◌else◌}
use Rattle.std.specs.List.{flat_map, list_any}
use Rattle.monk_kinds.specs.{Names.kind_word, Names.kinds, declared.name.KindName.KindName}
use Rattle.monk_history.specs.{declared.event.Event.Event, Meaning.Named.named_monitor}
use Rattle.monk_history.specs.Text.{Heading, Reading.History, Reading.text_at}
use Rattle.monk_audit.specs.{Under.under, Verdict.verdict_of, declared.verdict.Verdict.Verdict}
use Rattle.monk_commands.specs.declared.logs.view.LogView.TheVariants as view
use Rattle.monk_commands.specs.{LogAnswered.IsAnswerToLog, declared.question.Question.Question}
use Rattle.monk_commands.specs.{declared.fit_form.FitForm.FitForm, declared.fit_form.FitForm.TheVariants.Words}
use Rattle.monk_commands.specs.{declared.fit_form.FitForm.TheVariants.Named, declared.fit_form.FitForm.TheVariants.Json}
use Rattle.monk_commands.specs.Answer.{IsOf, IsReading, IsSized, LineAnswer, verdict_answer}

-- ---- a history

-- the verdict on the events under a kind, whatever kind the header names
abbrev pub verdict_under : Heading → List Event → KindName → Verdict
verdict_under h events k = verdict_of (named_monitor (under k h)) events

-- they fit a kind if they are legal under it
abbrev pub is_fit : Verdict → Bool
is_fit v = (verdict_answer v).status == 0

-- the line of a kind: the verdict on the events under it
abbrev pub fit_line : Heading → List Event → KindName → List ℕ
fit_line h events k = kind_word k ++ codes " " ++ (verdict_answer (verdict_under h events k)).text

-- the lines of these kinds
abbrev pub fit_lines : Heading → List Event → List KindName → List ℕ
fit_lines h events ks = flat_map (fit_line h events) ks

-- whether the events are legal under one of the kinds
abbrev pub fits_some : Heading → List Event → List KindName → Bool
fits_some h events ks = list_any (λ k. is_fit (verdict_under h events k)) ks

-- the answer under these kinds
abbrev pub fit_answer : List KindName → Heading → List Event → LineAnswer
fit_answer ks h events =
    record { status = if fits_some h events ks then 0 else 1; text = fit_lines h events ks }

-- the answer to a history
abbrev pub IsFit : List KindName → History → ℕ → List ℕ → Type 0
IsFit ks h status text = IsSized h.0.object h.0.size (IsOf (fit_answer ks h.0 h.1)) status text

-- the answer to the text of a history
abbrev pub IsFitText : List KindName → List ℕ → ℕ → List ℕ → Type 0
IsFitText ks input status text = IsReading (IsFit ks) (text_at (2 ^ 25) input) status text

-- ---- a text

-- the line after a name
abbrev pub named_line : List ℕ → List ℕ → List ℕ
named_line name line = name ++ (codes ": " ++ line)

-- the text is an answer after a name
pub record IsNamed (Is : ℕ → List ℕ → Type 0) (name : List ℕ) (status : ℕ) (text : List ℕ) : Type 0 where
  pub line : List ℕ
  pub is : Is status line
  pub named : text ≡ named_line name line

-- the answer to a history: ten lines, or one line under the kind after its name
abbrev pub IsHistoryFit : Option KindName → List ℕ → List ℕ → ℕ → List ℕ → Type 0
IsHistoryFit None name input status text = IsFitText kinds input status text
IsHistoryFit (Some k) name input status text = IsNamed (IsFitText (k ∷ []) input) name status text

-- the answer to a log: one line, after its name or in JSON
abbrev pub IsLogFit : FitForm → Question → List ℕ → ℕ → List ℕ → Type 0
IsLogFit Words q input status text = IsNamed (IsAnswerToLog view.Line q input) q.name.now status text
IsLogFit Named q input status text = IsNamed (IsAnswerToLog view.Line q input) q.name.now status text
IsLogFit Json q input status text = IsAnswerToLog view.Json q input status text
