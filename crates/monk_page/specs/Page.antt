-- The data of a page, in JSON
use Rattle.std.specs.Prelude.{ℕ, List, length, codes, nat_le, nat_lt, ◌&&◌, if◌then◌else◌}
use Rattle.std.specs.Option.{option_map_or}
use Rattle.monk_kinds.specs.Names.{kind_word, rules_named}
use Rattle.monk_object.specs.Names.{object_word}
use Rattle.monk_audit.specs.Words.{verdict_text}
use Rattle.monk_history.specs.{Text.Heading, declared.event.Event.Event}
use Rattle.monk_tell.specs.{Steps.steps_between, Words.mode_word, Words.ranks_text}
use Rattle.monk_tell.specs.Told.{Account, Blamed, account}
use Rattle.serde_json.specs.Data.{Data, null, string, object, Members, member, no_members}
use Rattle.monk_page.specs.{Blame.blame_json, Json.list_json, Json.number_json, Kinds.kinds_json, Step.step_json}
use Rattle.monk_page.specs.{declared.told_history.ToldHistory.ToldHistory}

-- what is wrong with the forbidden event, if it is among those after `before` events, up to the last that is shown
abbrev pub shown_blame_json : ℕ → ℕ → Blamed → Data
shown_blame_json before last b = if nat_lt before b.step && nat_le b.step last then blame_json b else null

-- the same from the answer for a history, or null for a legal one
abbrev pub forbidden_json : ℕ → ℕ → Account → Data
forbidden_json before last a = option_map_or (shown_blame_json before last) a.blame null

-- the steps after the first `before` events, up to the last that is shown
abbrev pub steps_json : Heading → List Event → ℕ → ℕ → Data
steps_json h es before last = list_json (step_json h.object) (steps_between h es before last)

-- the kind, and how each kind judges the events
abbrev pub with_kinds : Heading → List Event → Members → Members
with_kinds h es ms =
    member (codes "kind") (string (kind_word h.kind)) (member (codes "kinds") (kinds_json h es)
    (member (codes "mode") (string (mode_word (rules_named h.kind).mode)) ms))

-- the number of all events and of those before the first that is shown, what is forbidden, and the kind
abbrev pub with_counts : Heading → List Event → ℕ → ℕ → Members → Members
with_counts h es before last ms =
    member (codes "before") (number_json before) (member (codes "conditions") (number_json h.conds)
    (member (codes "events") (number_json (length es))
    (member (codes "forbidden") (forbidden_json before last (account h es)) (with_kinds h es ms))))

-- the rest of the header, the version of this data, the steps that are shown, and how all events are judged
abbrev pub with_judged : Heading → List Event → ℕ → ℕ → Members → Members
with_judged h es before last ms =
    member (codes "object") (string (object_word h.object)) (member (codes "page") (number_json 1)
    (member (codes "ranks") (string (ranks_text (rules_named h.kind))) (member (codes "seats") (number_json h.seats)
    (member (codes "size") (number_json h.size) (member (codes "steps") (steps_json h es before last)
    (member (codes "verdict") (string (verdict_text (account h es).verdict))
    (member (codes "version") (number_json h.version) ms)))))))

-- what is shown of a history: the events after the first `before`, up to the last, and how the whole is judged
abbrev pub page_json : Heading → List Event → ℕ → ℕ → Data
page_json h es before last = object (with_counts h es before last (with_judged h es before last no_members))

-- the data of the answer for a history
abbrev pub told_json : ToldHistory → Data
told_json t = page_json t.header.now t.events.now t.span.before t.span.last
