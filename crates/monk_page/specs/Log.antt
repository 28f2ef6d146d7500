-- The page of a log: the picture of a run, and the run step by step
use Rattle.std.specs.Prelude.{ℕ, ◌-◌, List, Option, codes, slice_get}
use Rattle.std.specs.Option.{option_map_or}
use Rattle.monk_object.specs.{Names.object_word, Object.Object}
use Rattle.monk_judge.specs.{Blame.blame_sentence, Blame.blame_word, Judged.after_all, Run.Setting, Run.State}
use Rattle.monk_judge.specs.{Run.opening, Run.setting, Text.line_text, Text.place_text, Text.step_text}
use Rattle.monk_judge.specs.Followed.{behind_lines, followed, places_below, telling}
use Rattle.monk_judge.specs.declared.{misfit.Misfit.Misfit, place.Place.Place, run.Run.Run, step.Step.Step}
use Rattle.monk_logs.specs.{Log.LogHeading, declared.text.line.LogLine.LogLine}
use Rattle.serde_json.specs.Data.{Data, null, string, object, Members, member, no_members}
use Rattle.monk_page.specs.Json.{list_json, number_json, numbers_json, option_json}
use Rattle.monk_page.specs.Html.{IsPageOf, log_end}

-- ---- one step

-- where a thread is
abbrev pub place_json : Place → Data
place_json p = string (place_text p)

-- who holds the lock, where the first threads are, and the data
abbrev pub with_state : ℕ → State → Members → Members
with_state seats x ms =
    member (codes "lock") (option_json number_json x.lock)
    (member (codes "places") (list_json place_json (places_below seats x.place))
    (member (codes "state") (numbers_json x.data_now) ms))

-- a state
abbrev pub state_json : ℕ → State → Data
state_json seats x = object (with_state seats x no_members)

-- a step, with the state after it
abbrev pub told_json : ℕ → Step × State → Data
told_json seats t = object (with_state seats t.1 (member (codes "told") (string (step_text t.0)) no_members))

-- ---- the line that misfits

-- the line, and why it can't follow
abbrev pub wrong_json : Misfit → LogLine → Data
wrong_json f l =
    object (member (codes "index") (number_json f.line) (member (codes "told") (string (line_text l))
    (member (codes "why") (string (blame_sentence f.why))
    (member (codes "word") (string (blame_word f.why)) no_members))))

-- the misfit, if there is one
abbrev pub misfit_json : Option Misfit → List LogLine → Data
misfit_json found lines = option_map_or (λ f. option_map_or (wrong_json f) (slice_get lines f.line) null) found null

-- ---- all

-- the steps that tell the lines after the first `before`, up to the last that is shown, and the state before them
abbrev pub with_run : Setting → State → List Step → ℕ → ℕ → Members → Members
with_run m x steps before last ms =
    let start = after_all m x (telling before steps) in
    let shown = telling (last - before) (behind_lines before steps) in
    member (codes "start") (state_json m.seats start)
    (member (codes "steps") (list_json (told_json m.seats) (followed m start shown)) ms)

-- what the header says, the number of lines before those that are shown, and the misfit
abbrev pub with_header : LogHeading → Run → List LogLine → ℕ → Members → Members
with_header h run lines before ms =
    member (codes "before") (number_json before) (member (codes "conditions") (number_json h.conds)
    (member (codes "misfit") (misfit_json run.misfit lines) (member (codes "object") (string (object_word h.object))
    (member (codes "seats") (number_json h.seats) (member (codes "size") (number_json h.size) ms)))))

-- the data of the page
abbrev pub log_json : LogHeading → Object → List ℕ → Run → List LogLine → ℕ → ℕ → Data
log_json h o d run lines before last =
    object (with_header h run lines before
    (with_run (setting h.seats h.conds o) (opening d) run.steps.items before last no_members))

-- these bytes are a page of the log
abbrev pub IsLogPage : LogHeading → Object → List ℕ → Run → List LogLine → ℕ → ℕ → List ℕ → Type 0
IsLogPage h o d run lines before last bytes = IsPageOf (log_json h o d run lines before last) log_end bytes
