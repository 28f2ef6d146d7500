-- The answer to a history whose verdict is explained
use Rattle.std.specs.Prelude.{◌≡◌, ℕ, List, Option, Some, None}
use Rattle.monk_kinds.specs.declared.name.KindName.{KindName}
use Rattle.monk_history.specs.Text.{Heading, Reading.History}
use Rattle.monk_audit.specs.Under.{under}
use Rattle.monk_tell.specs.Told.{Account, account}
use Rattle.monk_commands.specs.{Answer.IsSized, Answer.verdict_answer, LogAnswered.BeginsWith}

-- the status and the line of an audit; nothing is said about the lines after it
pub record IsTold (t : Account) (status : ℕ) (text : List ℕ) : Type 0 where
  pub status_is : status ≡ (verdict_answer t.verdict).status
  pub begins : BeginsWith (verdict_answer t.verdict).text text

-- the kind under which a history is judged: the named one, or its own
abbrev pub judged_under : Option KindName → Heading → Heading
judged_under None h = h
judged_under (Some k) h = under k h

-- the explanation of a history
abbrev pub IsExplained : Option KindName → History → ℕ → List ℕ → Type 0
IsExplained k h status text =
    IsSized h.0.object h.0.size (IsTold (account (judged_under k h.0) h.1)) status text
