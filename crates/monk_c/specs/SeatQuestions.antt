-- What a program can ask of a seat at any time
use Rattle.std.specs.Prelude.{◌≡◌, ℕ, ◌+◌, ℤ, pos, length, Option, Some, None}
use Rattle.monk_hall.specs.Layout.{waiting_word}
use Rattle.monk_c.specs.Stands.{At, Booked, me_of, At.Outside, At.Waiting, At.Inside}
use Rattle.monk_c.specs.Answers.{place_number}

-- the number for C of where a handle's seat is
abbrev pub place_at : Option Booked → ℤ
place_at None = pos 0
place_at (Some b) = place_number b.seat.at

-- n events are left of its budget
abbrev pub IsLeft : Option Booked → ℕ → Type 0
IsLeft None n = n ≡ 0
IsLeft (Some b) n = n + length (me_of b.seat.at).mine ≡ (me_of b.seat.at).setting.budget

-- where the grant of a waiting seat will come
abbrev pub word_of : At → ℕ
word_of (Outside p) = 0
word_of (Waiting p) = waiting_word p.me
word_of (Inside a) = 0

-- the word at which a handle's seat waits
abbrev pub word_at : Option Booked → ℕ
word_at None = 0
word_at (Some b) = word_of b.seat.at
