-- What is wrong with an event, in JSON
use Rattle.std.specs.Prelude.{codes}
use Rattle.monk_tell.specs.{Told.Blamed, Why.why_text, declared.why.Why.Why}
use Rattle.serde_json.specs.Data.{Data, string, object, member, no_members}
use Rattle.monk_page.specs.{Choice.choice_json, Json.number_json, Json.option_json, Step.event_json}

-- the sentence that says why
abbrev pub why_json : Why → Data
why_json w = string (why_text w)

-- the event with its step, what its reason adds, and the sentence
abbrev pub blame_json : Blamed → Data
blame_json b =
    object (member (codes "choice") (option_json choice_json b.choice) (member (codes "event") (event_json b.event)
    (member (codes "reply") (option_json number_json b.reply) (member (codes "step") (number_json b.step)
    (member (codes "why") (why_json b.why) no_members)))))
