-- How histories and their texts belong together.
use Rattle.std.specs.Prelude.{◌≡◌, ℕ, ◌-◌, ◌<◌, ◌≤◌, List, [], ◌∷◌, ◌++◌, length, take, Ok, Err}
use Rattle.std.specs.List.{flat_map}
use Rattle.monk_history.specs.Text.{Heading, HasText, text, Lines.lines_of, Reading.history, Reading.text_at}
use Rattle.monk_history.specs.declared.{event.Event.Event, text.fault.ReadFault.ReadFault}

-- no two histories have one text
abbrev pub OneHistoryEach : Type 0
OneHistoryEach = (h g : Heading) (es fs : List Event) → HasText h es → HasText g fs → text h es ≡ text g fs
    → history h es ≡ history g fs

-- reading the text of a history gives the history back, under each limit that is not below its length
abbrev pub ReadsBack : Type 0
ReadsBack = (limit : ℕ) (h : Heading) (es : List Event) → HasText h es → length es ≤ limit
    → text_at limit (text h es) ≡ Ok (history h es)

-- the bytes of the first n lines, each with its byte 10
abbrev pub first_lines : ℕ → List ℕ → List ℕ
first_lines n bytes = flat_map (λ l. l ++ 10 ∷ []) (take n (lines_of bytes))

-- the text of some history of at most `limit` events begins with these bytes
abbrev pub BeginsText : ℕ → List ℕ → Type 0
BeginsText limit front =
    (h : Heading) × (es : List Event) × (rest : List ℕ) × HasText h es × (length es ≤ limit)
    × (text h es ≡ front ++ rest)

-- some text begins with the lines before that line. If that line is finished, none begins with these and that line
pub record IsFirstFaulty (limit : ℕ) (bytes : List ℕ) (line : ℕ) : Type 0 where
  pub before : BeginsText limit (first_lines (line - 1) bytes)
  pub never : line < length (lines_of bytes) → BeginsText limit (first_lines line bytes) → ⊥

-- a fault is that of the first line with which no text begins
abbrev pub FaultIsFirst : Type 0
FaultIsFirst = (limit : ℕ) (bytes : List ℕ) (f : ReadFault) → text_at limit bytes ≡ Err f
    → IsFirstFaulty limit bytes f.line
