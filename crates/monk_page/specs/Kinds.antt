-- The same events under each kind, in JSON
use Rattle.std.specs.Prelude.{codes, List, Option}
use Rattle.monk_kinds.specs.{Names.kind_word, Names.kinds, declared.name.KindName.KindName}
use Rattle.monk_audit.specs.{Under.under, Words.verdict_text, declared.verdict.Verdict.Verdict}
use Rattle.monk_history.specs.{Text.Heading, declared.event.Event.Event}
use Rattle.monk_tell.specs.Told.{Blamed, account}
use Rattle.serde_json.specs.Data.{Data, string, object, member, no_members}
use Rattle.monk_page.specs.{Blame.why_json, Json.list_json, Json.option_json}

-- the verdict, and why an event is forbidden
abbrev pub verdict_json : KindName → Verdict → Option Blamed → Data
verdict_json k v blame =
    object (member (codes "kind") (string (kind_word k))
    (member (codes "verdict") (string (verdict_text v))
    (member (codes "why") (option_json (λ b. why_json b.why) blame) no_members)))

-- what an audit finds if the monitor is of that kind
unfoldable pub kind_json : Heading → List Event → KindName → Data
kind_json h es k = let a = account (under k h) es in verdict_json k a.verdict a.blame

-- the same for each of the ten
abbrev pub kinds_json : Heading → List Event → Data
kinds_json h es = list_json (kind_json h es) kinds
