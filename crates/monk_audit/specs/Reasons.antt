-- The reasons against an event, by number and in words
use Rattle.std.specs.Prelude.{ℕ, ◌==◌, List, Option, Some, None, codes, if◌then◌else◌}
use Rattle.monk_audit.specs.declared.reason.Reason.{Reason}
use Rattle.monk_audit.specs.declared.reason.Reason.TheVariants.{Range, Call, Turn, Place, Reply, Choice}

-- the number of the test that the event fails
abbrev pub number_of : Reason → ℕ
number_of Range = 1
number_of Call = 2
number_of Turn = 3
number_of Place = 4
number_of Reply = 5
number_of Choice = 6

-- the number of the first test that an event fails, or 0 if it fails none
abbrev pub number_or_0 : Option Reason → ℕ
number_or_0 None = 0
number_or_0 (Some reason) = number_of reason

-- the reason with the number, or the last reason if none has it
abbrev pub numbered : ℕ → Reason
numbered n =
    if n == 1 then Range
    else if n == 2 then Call
    else if n == 3 then Turn
    else if n == 4 then Place
    else if n == 5 then Reply
    else Choice

-- the word of a reason
abbrev pub word_of : Reason → List ℕ
word_of Range = codes "range"
word_of Call = codes "call"
word_of Turn = codes "turn"
word_of Place = codes "place"
word_of Reply = codes "reply"
word_of Choice = codes "choice"

-- what a picture says of an event that is not allowed for that reason
abbrev pub caption_of : Reason → List ℕ
caption_of Range = codes "range, a number that the monitor doesn't have"
caption_of Call = codes "call, this kind has no such call"
caption_of Turn = codes "turn, it is not this seat's turn"
caption_of Place = codes "place, this seat may not come in here"
caption_of Reply = codes "reply, the object replies otherwise"
caption_of Choice = codes "choice, this kind lets another seat go on"
