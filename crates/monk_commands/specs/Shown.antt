-- The answer to a history that is shown, by a picture or by a page: with the status of its audit
use Rattle.std.specs.Prelude.{◌≡◌, ℕ, ⊤, false, true, List, length, Option}
use Rattle.monk_history.specs.{declared.event.Event.Event, Meaning.Named.named_monitor}
use Rattle.monk_history.specs.Text.{Heading, Reading.History}
use Rattle.monk_audit.specs.{Verdict.verdict_of, declared.verdict.Verdict.Verdict}
use Rattle.monk_draw.specs.{Window.is_behind, Window.showable, declared.window.Window.Window}
use Rattle.monk_page.specs.Html.{IsArticle, IsPage}
use Rattle.monk_tell.specs.Told.{forbidden_step}
use Rattle.monk_commands.specs.declared.show.HistoryForm.TheVariants as form
use Rattle.monk_commands.specs.declared.show.Show.TheVariants as show
use Rattle.monk_commands.specs.Answer.{IsOf, IsSized, behind, verdict_answer}
use Rattle.monk_commands.specs.declared.show.{HistoryForm.HistoryForm, Show.Show}

-- the last event that can be shown
abbrev pub last_shown : Verdict → List Event → ℕ
last_shown v events = showable (forbidden_step v) (length events)

-- how the events are shown: a page or its part has their data; nothing is said about how a picture looks
abbrev pub IsShownAs : HistoryForm → Option Window → Heading → List Event → List ℕ → Type 0
IsShownAs (form.Picture picture) w h events text = ⊤
IsShownAs form.Page w h events text = IsPage h events w text
IsShownAs (form.Article beside) w h events text = IsArticle h events w beside.now text

-- the form of a history for this
abbrev pub form_of : Show → HistoryForm
form_of (show.Picture picture) = form.Picture picture
form_of show.Page = form.Page

-- the answer by a verdict: this, with its status, unless the events that are asked for are after the last
pub record IsAnsweredBy (f : HistoryForm) (w : Option Window) (v : Verdict) (h : Heading) (events : List Event)
    (status : ℕ) (text : List ℕ) : Type 0 where
  pub shown : is_behind w (last_shown v events) ≡ false
      → (status ≡ (verdict_answer v).status) × IsShownAs f w h events text
  pub none : is_behind w (last_shown v events) ≡ true → IsOf (behind (last_shown v events)) status text

-- the answer to a history
abbrev pub IsShown : HistoryForm → Option Window → History → ℕ → List ℕ → Type 0
IsShown f w h status text =
    IsSized h.0.object h.0.size (IsAnsweredBy f w (verdict_of (named_monitor h.0) h.1) h.0 h.1) status text
