-- The state of an object in words, for those who read it
use Rattle.std.specs.Prelude.{ℕ, zero, suc, ◌==◌, List, [], ◌∷◌, ◌++◌, get_or, if◌then◌else◌, codes}
use Rattle.std.specs.{Fmt.decimal, Int.bit_at, List.flat_map}
use Rattle.monk_object.specs.declared.name.ObjectName.{ObjectName}
use Rattle.monk_object.specs.declared.name.ObjectName.TheVariants.{Buffer, Book, Shop, Flags}

-- whole numbers, with a space before each
abbrev pub spaced : List ℕ → List ℕ
spaced numbers = flat_map (λ n. codes " " ++ decimal n) numbers

-- how many do it: 0 and 1 as words, with the verb for one, and any other number with the verb for many
abbrev pub how_many : ℕ → List ℕ → List ℕ → List ℕ
how_many n does do_it =
    if n == 0 then codes "none " ++ does
    else if n == 1 then codes "one " ++ does
    else decimal n ++ (codes " " ++ do_it)

-- the items of a buffer, the oldest first
abbrev pub items_in_words : List ℕ → List ℕ
items_in_words [] = codes " empty"
items_in_words (x ∷ xs) = spaced (x ∷ xs)

-- the state of a buffer: its size and its items
abbrev pub buffer_in_words : List ℕ → List ℕ
buffer_in_words [] = []
buffer_in_words (size ∷ items) = codes "buffer of " ++ (decimal size ++ (codes ":" ++ items_in_words items))

-- who reads a book, and who writes
abbrev pub book_in_words : List ℕ → List ℕ
book_in_words state =
    how_many (get_or state 1 0) (codes "reads") (codes "read") ++ (codes ", "
    ++ how_many (get_or state 2 0) (codes "writes") (codes "write"))

-- the words for a chair of that number
abbrev pub chair_in_words : ℕ → List ℕ
chair_in_words chair =
    if chair == 0 then codes "chair empty"
    else if chair == 1 then codes "chair in use"
    else codes "cut done"

-- who sits in a shop to wait, and the barber's chair
abbrev pub shop_in_words : List ℕ → List ℕ
shop_in_words state =
    how_many (get_or state 1 0) (codes "sits") (codes "sit") ++ (codes ", " ++ chair_in_words (get_or state 2 0))

-- the set bits below that place, each with a space before it
unfoldable pub bits_below : ℕ → ℕ → List ℕ
bits_below bits zero = []
bits_below bits (suc place) =
    bits_below bits place ++ (if bit_at bits place == 1 then codes " " ++ decimal place else [])

-- which flags are set
abbrev pub flags_in_words : List ℕ → List ℕ
flags_in_words state =
    if get_or state 1 0 == 0 then codes "no bit set" else codes "bits set:" ++ bits_below (get_or state 1 0) 32

-- the words for the state of the object of that name
abbrev pub state_in_words : ObjectName → List ℕ → List ℕ
state_in_words Buffer state = buffer_in_words state
state_in_words Book state = book_in_words state
state_in_words Shop state = shop_in_words state
state_in_words Flags state = flags_in_words state
