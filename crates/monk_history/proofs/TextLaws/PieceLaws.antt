-- The items of bytes that begin with a line, whatever follows them.
use Rattle.std.proofs.Common.{◌≡◌, ◌≢◌, ◌==◌, ℕ, ◌+◌, ◌-◌, true, cond, List, [], ◌∷◌, ◌++◌, length, Ok, Err, refl}
use Rattle.std.proofs.lemmas.Bool.{ne_eqb}
use Rattle.monk_history.specs.declared.text.fault.ReadFault.{ReadFault}
use Rattle.monk_history.specs.Text.Faults.{end_fault, header_fault, long_fault}
use Rattle.monk_history.specs.Text.Words.{◌>>=◌, Word, Taken}
use Rattle.monk_history.specs.Text.Lines.{BeginsWith, is_unended, item_line, items_at, lines_of, opened_at}
use Rattle.monk_history.specs.Text.Pieces.{IsHeadOf, PieceLeft, piece_left, items_with}
use Rattle.monk_history.proofs.TextLaws.FrontLaws.{lines_begin, lines_none}
use Rattle.monk_history.proofs.TextLaws.LineSteps.{goes_on, has_fault, is_done, is_long, is_unfinished, left_of, no_header, some_header}

pub piece_goes_on : {A : Type 0}
    → (parse : List Word → Taken A) (p : PieceLeft) (bytes line rest : List ℕ) (n room : ℕ) (e : A)
    → p ≡ piece_left bytes n room → BeginsWith bytes line rest → room ≢ 0 → Ok e ≡ item_line parse n line
    → (more : List ℕ)
    → items_with parse p more ≡ (items_with parse (piece_left rest (n + 1) (room - 1)) more >>= λ es. Ok (e ∷ es))
piece_goes_on {A = A} parse p bytes line rest n room e view begins some good more =
    rw view (goes_on parse (left_of (bytes ++ more) n room) (bytes ++ more) line (rest ++ more) n room e refl
    (lines_begin more begins) some good)

pub piece_too_long : {A : Type 0}
    → (parse : List Word → Taken A) (p : PieceLeft) (bytes line rest : List ℕ) (n room : ℕ)
    → p ≡ piece_left bytes n room → BeginsWith bytes line rest → room ≡ 0
    → (more : List ℕ) → items_with parse p more ≡ Err (long_fault n)
piece_too_long {A = A} parse p bytes line rest n room view begins none more =
    rw view (is_long parse (left_of (bytes ++ more) n room) (bytes ++ more) line (rest ++ more) n room refl
    (lines_begin more begins) none)

pub piece_has_fault : {A : Type 0}
    → (parse : List Word → Taken A) (p : PieceLeft) (bytes line rest : List ℕ) (n room : ℕ)
    (f : ReadFault) → p ≡ piece_left bytes n room → BeginsWith bytes line rest → room ≢ 0
    → Err f ≡ item_line parse n line
    → (more : List ℕ) → items_with parse p more ≡ Err f
piece_has_fault {A = A} parse p bytes line rest n room f view begins some bad more =
    rw view (has_fault parse (left_of (bytes ++ more) n room) (bytes ++ more) line (rest ++ more) n room f refl
    (lines_begin more begins) some bad)

-- ---- the end of a text, if these bytes follow its last line

pub items_end : {A : Type 0} → (parse : List Word → Taken A) (bytes : List ℕ) (n room : ℕ) → is_unended bytes ≡ true
    → length bytes ≡ 0 → items_at parse room n (lines_of bytes) ≡ Ok []
items_end {A = A} parse bytes n room one empty =
    is_done parse (left_of bytes n room) bytes n room refl (lines_none bytes one) (rw empty refl)

pub items_unfinished : {A : Type 0} → (parse : List Word → Taken A) (bytes : List ℕ) (n room : ℕ)
    → is_unended bytes ≡ true
    → length bytes ≢ 0 → items_at parse room n (lines_of bytes) ≡ Err (end_fault n)
items_unfinished {A = A} parse bytes n room one some =
    is_unfinished parse (left_of bytes n room) bytes n room refl (lines_none bytes one) (ne_eqb _ _ some)

-- ---- the header

pub head_opens : {H : Type 0} → (head : List Word → Taken H) (limit : ℕ) (bytes rest : List ℕ) (h : H)
    → IsHeadOf head bytes (Ok h) rest
    → (more : List ℕ) → Ok (h, left_of (rest ++ more) 2 limit) ≡ opened_at head limit (lines_of (bytes ++ more))
head_opens {H = H} head limit bytes rest h is more =
    some_header head limit (bytes ++ more) is.line (rest ++ more) h (lines_begin more is.begins) is.is

pub head_refused : {H : Type 0} → (head : List Word → Taken H) (limit : ℕ) (bytes rest : List ℕ) (f : ReadFault)
    → IsHeadOf head bytes (Err f) rest
    → (more : List ℕ) → Err f ≡ opened_at head limit (lines_of (bytes ++ more))
head_refused {H = H} head limit bytes rest f is more =
    no_header head limit (bytes ++ more) is.line (rest ++ more) f (lines_begin more is.begins) is.is

pub head_missing : {H : Type 0} → (head : List Word → Taken H) (limit : ℕ) (bytes : List ℕ) → is_unended bytes ≡ true
    → Err (cond (length bytes == 0) header_fault (end_fault 1)) ≡ opened_at head limit (lines_of bytes)
unfolding opened_at
head_missing {H = H} head limit bytes one = rw (lines_none bytes one) refl
