-- The picture or the page of a log: of a run that tells it, up to the line that misfits
use Rattle.std.specs.Prelude.{◌≡◌, ◌^◌, ◌+◌, ⊤, ℕ, true, false, List, length, take, Option, Some, None}
use Rattle.monk_object.specs.Names.{meaning_named, opening_named}
use Rattle.monk_draw.specs.{Window.is_behind, Window.not_shown, Window.shown_last, declared.window.Window.Window}
use Rattle.monk_judge.specs.{Run.IsRun, Run.opening, Run.setting, declared.misfit.Misfit.Misfit, declared.run.Run.Run}
use Rattle.monk_logs.specs.{Log.LogHeading, Log.Reading.Log, Log.Reading.log_at, declared.text.line.LogLine.LogLine}
use Rattle.monk_commands.specs.{Answer.IsOf, Answer.IsReading, Answer.IsSized, Answer.behind, RunText.IsRunOfLog}
use Rattle.monk_commands.specs.declared.show.Show.{Show, TheVariants.Picture, TheVariants.Page}
use Rattle.monk_page.specs.Log.{IsLogPage}

-- the lines that are drawn
abbrev pub drawn_lines : Option Misfit → List LogLine → List LogLine
drawn_lines None lines = lines
drawn_lines (Some f) lines = take (f.line + 1) lines

-- the status
abbrev pub status_of : Option Misfit → ℕ
status_of None = 0
status_of (Some f) = 1

-- how it is shown, by the lines that are drawn: a page has its data; nothing is said about how a picture looks
abbrev pub IsRunShownAs : Show → Option Window → LogHeading → Run → List LogLine → List ℕ → Type 0
IsRunShownAs (Picture form) w h run drawn text = ⊤
IsRunShownAs Page w h run drawn text =
    let last = shown_last w (length drawn) in
    IsLogPage h (meaning_named h.object) (opening_named h.object h.size) run drawn (not_shown w last) last text

-- its steps are a run
abbrev pub HasRun : LogHeading → Run → Type 0
HasRun h run =
    IsRun (setting h.seats h.conds (meaning_named h.object)) (opening (opening_named h.object h.size)) run.steps.items

-- a run of the log is shown by these lines, or the answer is that the lines asked for are after the last
pub record IsRunShown (show : Show) (w : Option Window) (h : LogHeading) (run : Run) (drawn : List LogLine)
    (status : ℕ) (text : List ℕ) : Type 0 where
  pub shown : is_behind w (length drawn) ≡ false
      → (status ≡ status_of run.misfit) × IsRunShownAs show w h run drawn text
  pub none : is_behind w (length drawn) ≡ true → IsOf (behind (length drawn)) status text

-- some run of the log is shown
pub record IsSomeRunShown (show : Show) (w : Option Window) (h : LogHeading) (lines : List LogLine) (status : ℕ)
    (text : List ℕ) : Type 0 where
  pub run : Run
  pub is : IsRunOfLog h lines run
  pub shown : IsRunShown show w h run (drawn_lines run.misfit lines) status text

-- the answer to a log
abbrev pub IsLogShown : Show → Option Window → Log → ℕ → List ℕ → Type 0
IsLogShown show w l status text = IsSized l.0.object l.0.size (IsSomeRunShown show w l.0 l.1) status text

-- the answer to the text of a log
abbrev pub IsLogShowing : Show → Option Window → List ℕ → ℕ → List ℕ → Type 0
IsLogShowing show w input status text = IsReading (IsLogShown show w) (log_at (2 ^ 25) input) status text
