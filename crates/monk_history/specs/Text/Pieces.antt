-- A text that comes in pieces: what is read from one, whatever follows it.
use Rattle.std.specs.Prelude.{◌≡◌, ℕ, List, ◌∷◌, ◌++◌, Option, Some, None, Result, Ok, Err}
use Rattle.monk_history.specs.declared.text.fault.ReadFault.{ReadFault}
use Rattle.monk_history.specs.Text.Words.{◌>>=◌, Word, Taken}
use Rattle.monk_history.specs.Text.Lines.{lines_of, items_at, header_line, BeginsWith}

-- bytes of a piece that are not yet read, the number of their first line, and how many more lines may be read
pub record PieceLeft : Type 0 where
  pub bytes : List ℕ
  pub number : ℕ
  pub room : ℕ

-- what is left of a text that is read in pieces
abbrev pub piece_left : List ℕ → ℕ → ℕ → PieceLeft
piece_left bytes number room = record { bytes = bytes; number = number; room = room }

-- the items of the bytes, if these bytes follow them
abbrev pub items_with : {A : Type 0} → (List Word → Taken A) → PieceLeft → List ℕ → Result (List A) ReadFault
items_with parse p more = items_at parse p.room p.number (lines_of (p.bytes ++ more))

-- the next item, by what was to be read before it and after it, whatever follows the piece
abbrev pub IsNextOfPiece : {A : Type 0} → Result (Option A) ReadFault → (List ℕ → Result (List A) ReadFault)
    → (List ℕ → Result (List A) ReadFault) → Type 0
IsNextOfPiece (Ok (Some x)) old new = (more : List ℕ) → old more ≡ (new more >>= λ es. Ok (x ∷ es))
IsNextOfPiece (Ok None) old new = (more : List ℕ) → old more ≡ new more
IsNextOfPiece (Err f) old new = (more : List ℕ) → old more ≡ Err f

-- what the first line of the bytes is as a header, and what follows that line
pub record IsHeadOf {H : Type 0} (parse : List Word → Taken H) (bytes : List ℕ) (read : Result H ReadFault)
    (rest : List ℕ) : Type 0 where
  pub line : List ℕ
  pub begins : BeginsWith bytes line rest
  pub is : read ≡ header_line parse line
