-- A step of a history in JSON: the event, what it chose from, and the state of the monitor after it
use Rattle.std.specs.Prelude.{ℕ, List, Option, codes}
use Rattle.monk_history.specs.declared.event.Event.{Event}
use Rattle.monk_object.specs.{InWords.state_in_words, declared.name.ObjectName.ObjectName}
use Rattle.monk_tell.specs.{Steps.ShownStep, Told.ShownStanding, Words.event_text, Words.turn_text}
use Rattle.serde_json.specs.Data.{Data, string, object, Members, member, no_members}
use Rattle.monk_page.specs.Choice.{choice_json}
use Rattle.monk_page.specs.Json.{list_json, number_json, numbers_json, option_json, pair_json}

-- an event, as in a text
abbrev pub event_json : Event → Data
event_json e = string (event_text e)

-- a seat, and the predicate until which it waits
abbrev pub wait_json : ℕ × ℕ → Data
wait_json w = pair_json (number_json w.0) (number_json w.1)

-- the queue if the kind has it, else null
abbrev pub seats_json : Option (List ℕ) → Data
seats_json queue = option_json numbers_json queue

-- the members of a step over that object, in order up to who is inside
abbrev pub with_event : ObjectName → ShownStep → Members → Members
with_event o s ms =
    member (codes "choice") (option_json choice_json s.choice)
    (member (codes "conditions") (option_json (list_json numbers_json) s.standing.queues.conditions)
    (member (codes "data") (string (state_in_words o s.standing.state))
    (member (codes "event") (option_json event_json s.event)
    (member (codes "inside") (numbers_json s.standing.inside) ms))))

-- the members after them
abbrev pub with_queues : ShownStanding → Members → Members
with_queues s ms =
    member (codes "ready") (seats_json s.queues.ready) (member (codes "signaller") (seats_json s.queues.signallers)
    (member (codes "state") (numbers_json s.state) (member (codes "turn") (string (turn_text s.turn))
    (member (codes "until") (option_json (list_json wait_json) s.queues.untils)
    (member (codes "waiter") (seats_json s.queues.waiters) ms)))))

-- the step of a monitor over that object; no proof about a list looks into it
unfoldable pub step_json : ObjectName → ShownStep → Data
step_json o s = object (with_event o s (with_queues s.standing no_members))
