-- What a release chooses from, and what it may choose, in JSON
use Rattle.std.specs.Prelude.{ℕ, codes}
use Rattle.monk_history.specs.{Text.from_word, declared.event.From3.From3, declared.event.Next.Next}
use Rattle.monk_tell.specs.{Told.Chosen, Words.next_text}
use Rattle.serde_json.specs.Data.{Data, string, object, member, no_members}
use Rattle.monk_page.specs.Json.{list_json, number_json, pair_json}

-- the queue, and its first seat
abbrev pub front_json : From3 × ℕ → Data
front_json f = pair_json (string (from_word f.0)) (number_json f.1)

-- a next, as in a text
abbrev pub next_json : Next → Data
next_json n = string (next_text n)

-- the fronts, and each next that is permitted
abbrev pub choice_json : Chosen → Data
choice_json c =
    object (member (codes "fronts") (list_json front_json c.fronts)
    (member (codes "may") (list_json next_json c.may) no_members))
