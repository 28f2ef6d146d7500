-- The words of a line: what is read from their front is a value and the words after it, or a flaw.
use Rattle.std.specs.Prelude.{◌≡◌, ℕ, List, [], ◌∷◌, Bool, false, not, Option, Some, None, Result, Ok, Err, nat_le}
use Rattle.std.specs.Prelude.{◌==◌, ◌&&◌, if◌then◌else◌, filter}
use Rattle.std.specs.{List.slice_split, List.list_all, Str.bytes_eq, Str.Parse.digits_value, Fmt.decimal}
use Rattle.monk_history.specs.declared.text.fault.Flaw.TheVariants as flaw
use Rattle.monk_history.specs.declared.text.fault.Flaw.{Flaw}
use Rattle.monk_kinds.specs.Names.{with_text}

-- a word's bytes
abbrev pub Word : Type 0
Word = List ℕ

-- a line is cut at every byte 32, so words may be empty
abbrev pub words_of : List ℕ → List Word
words_of line = slice_split (λ b. b == 32) line

-- what was taken off the words, with those that are left; or what is wrong with them
abbrev pub Taken : Type 0 → Type 0
Taken A = Result (A × List Word) Flaw

infixl 10 ◌>>=◌
-- goes on with what was found, unless there was a flaw
abbrev pub ◌>>=◌ : {A B E : Type 0} → Result A E → (A → Result B E) → Result B E
(Ok x) >>= f = f x
(Err e) >>= f = Err e

-- a word is a number if it is written as its value is: as decimal digits, with no needless zero in front
abbrev pub is_number : ℕ → Word → Bool
is_number most w = bytes_eq w (decimal (digits_value 10 w)) && nat_le (digits_value 10 w) most

-- the number that the word writes, if it is at most `most`
abbrev pub number_in : ℕ → Word → Option ℕ
number_in most w = if is_number most w then Some (digits_value 10 w) else None

-- a number that is at most `most`
unfoldable pub number_at : ℕ → List Word → Taken ℕ
number_at most [] = Err flaw.Word
number_at most (w ∷ ws) = if is_number most w then Ok (digits_value 10 w, ws) else Err flaw.Number

-- what was found, with the words that are left; or a wrong word if nothing was found
abbrev pub with_rest : {A : Type 0} → List Word → Option A → Taken A
with_rest ws None = Err flaw.Word
with_rest ws (Some x) = Ok (x, ws)

-- one of the values, by its word
unfoldable pub one_of : {A : Type 0} → (A → Word) → List A → List Word → Taken A
one_of word values [] = Err flaw.Word
one_of word values (w ∷ ws) = with_rest ws (with_text word values w)

-- the values that a version has. Each is there from its first version on
abbrev pub in_version : {A : Type 0} → (A → ℕ) → ℕ → List A → List A
in_version first version values = filter (λ x. nat_le (first x) version) values

-- that word and no other
abbrev pub literal_at : Word → List Word → Taken (Unit {0})
literal_at l [] = Err flaw.Word
literal_at l (w ∷ ws) = if bytes_eq w l then Ok (tt, ws) else Err flaw.Word

-- no further word
abbrev pub end_at : List Word → Taken (Unit {0})
end_at [] = Ok (tt, [])
end_at (w ∷ ws) = Err flaw.Word

-- a word with no byte 32
abbrev pub is_unbroken : Word → Bool
is_unbroken w = list_all (λ b. not (b == 32)) w

-- whether the next word is that one
abbrev pub is_next : Word → List Word → Bool
is_next w [] = false
is_next w (v ∷ vs) = bytes_eq v w

-- what a reader of words returned and left is what the definition takes from them
abbrev pub Reads : {A : Type 0} → Result A Flaw → List Word → Taken A → Type 0
Reads (Ok x) left taken = taken ≡ Ok (x, left)
Reads (Err f) left taken = taken ≡ Err f

-- the words of what is left of a line, if anything is
abbrev pub words_left : Option (List ℕ) → List Word
words_left None = []
words_left (Some line) = words_of line
