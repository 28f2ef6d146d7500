-- A line at the front of some bytes, and what the lines of these bytes are.
use Rattle.std.proofs.Common.{◌≡◌, ◌==◌, ℕ, ◌≤◌, Bool, true, cond, List, [], ◌∷◌, ◌++◌, Result, Ok, Err, refl, sym, ap, ◌∙◌}
use Rattle.std.proofs.lemmas.{Bool.le-leb, Bool.Decides.nat_tests, List.Splits.join_with_byte-slice_split}
use Rattle.std.proofs.Common.{append_assoc, drop, Option, arith}
use Rattle.std.specs.List.{slice_split, onto_first, list_all, join_with_byte}
use Rattle.std.specs.Prelude.{not, nat_le, IfSome}
use Rattle.monk_history.proofs.TextLaws.{EventReading.event_again, LineSteps.some_part}
use Rattle.monk_history.proofs.TextLaws.PlainWords.{event_are_words, some_word}
use Rattle.monk_history.proofs.TextLaws.LineCuts.{cut_at, cut_none, words_of-words, no_end_in_join}
use Rattle.monk_history.specs.declared.{event.Event.Event, text.fault.Flaw.Flaw}
use Rattle.monk_history.specs.Text.{event_words, first_version, EventFits, Places.StandsAt, Reading.event_at}
use Rattle.monk_history.specs.Text.Words.{Word, Taken, Reads}
use Rattle.monk_history.specs.Text.Lines.{line, lines_of, is_unended, BeginsWith, taken_alone, IsReadAs, IsAtFront}
use Rattle.monk_history.specs.Text.Lines.{flaw_at, with_line_number}

-- ---- the lines of bytes that begin with a line, or have none, whatever follows them

pub lines_begin : {bytes line rest : List ℕ} (more : List ℕ) → BeginsWith bytes line rest
    → lines_of (bytes ++ more) ≡ line ∷ lines_of (rest ++ more)
lines_begin more h = grind (arith, nat_tests, append_assoc, cut_at)

pub lines_first : {bytes line rest : List ℕ} → BeginsWith bytes line rest → lines_of bytes ≡ line ∷ lines_of rest
lines_first {line = line} {rest = rest} b = ap lines_of b.whole ∙ cut_at (λ c. c == 10) line 10 rest b.one refl

pub lines_none : (bytes : List ℕ) → is_unended bytes ≡ true → lines_of bytes ≡ bytes ∷ []
lines_none bytes one = cut_none (λ b. b == 10) bytes one

-- ---- what cutting at the first end gives

first_of : List (List ℕ) → List ℕ
first_of [] = []
first_of (part ∷ parts) = part

front_more : (p : ℕ → Bool) (x : ℕ) (b : Bool) (parts : List (List ℕ)) → p x ≡ b
    → list_all (λ c. not (p c)) (first_of parts) ≡ true
    → list_all (λ c. not (p c)) (first_of (cond b ([] ∷ parts) (onto_first x parts))) ≡ true
unfolding first_of
front_more p x b parts is h = grind (arith, nat_tests)

front_is_one : (p : ℕ → Bool) (xs : List ℕ) → list_all (λ c. not (p c)) (first_of (slice_split p xs)) ≡ true
unfolding first_of
front_is_one p [] = refl
front_is_one p (x ∷ xs) = front_more p x (p x) (slice_split p xs) refl (front_is_one p xs)

first_is_one : (p : ℕ → Bool) (xs first : List ℕ) (parts : List (List ℕ)) → slice_split p xs ≡ first ∷ parts
    → list_all (λ c. not (p c)) first ≡ true
unfolding first_of
first_is_one p xs first parts e = ap (λ (ps : List (List ℕ)). list_all (λ c. not (p c)) (first_of ps)) (sym e)
    ∙ front_is_one p xs

pub cut_begins : (bytes line rest : List ℕ) → lines_of bytes ≡ line ∷ lines_of rest → BeginsWith bytes line rest
cut_begins bytes line rest cut =
    let p = some_part (λ b. b == 10) rest in
    record {
      one = first_is_one (λ b. b == 10) bytes line (lines_of rest) cut;
      whole = sym (join_with_byte-slice_split 10 bytes)
          ∙ (ap (join_with_byte 10) (cut ∙ ap (λ (ps : List (List ℕ)). line ∷ ps) p.2)
          ∙ ap (λ (x : List ℕ). line ++ 10 ∷ x)
          (ap (join_with_byte 10) (sym p.2) ∙ join_with_byte-slice_split 10 rest));
    }

pub cut_unended : (bytes : List ℕ) → lines_of bytes ≡ bytes ∷ [] → is_unended bytes ≡ true
cut_unended bytes cut = first_is_one (λ b. b == 10) bytes bytes [] cut

-- ---- what was read from the line

pub read_is : {A : Type 0} (r : Result A Flaw) (left : List Word) (t : Taken A) → Reads r left t → r ≡ taken_alone t
read_is (Ok x) left t h = sym (ap (λ u. taken_alone u) h)
read_is (Err f) left t h = sym (ap (λ u. taken_alone u) h)

pub read_ok : {A : Type 0} (n : ℕ) (t : Taken A) (x : A) → Ok x ≡ taken_alone t → Ok x ≡ with_line_number n t
read_ok {A = A} n (Ok y) x e = let same : x ≡ y.0 = cc in ap (λ (z : A). Ok z) same
read_ok n (Err f) x e = absurd cc

pub read_flaw : {A : Type 0} (n : ℕ) (t : Taken A) (f : Flaw) → Err f ≡ taken_alone t
    → Err (flaw_at f n) ≡ with_line_number n t
read_flaw n (Ok y) f e = absurd cc
read_flaw n (Err g) f e = let same : f ≡ g = cc in ap (λ (x : Flaw). Err (flaw_at x n)) same

-- ---- the line of an event

pub event_stands : (version : ℕ) (bytes : List ℕ) (e : Event) (count : ℕ)
    → StandsAt bytes 0 (line (event_words e)) count
    → EventFits e → nat_le (first_version e) version ≡ true
    → IsReadAs (event_at version) bytes (Ok e) (drop count bytes)
event_stands version bytes e count stands fits has =
    grind (arith, nat_tests, event_are_words, no_end_in_join, append_assoc, words_of-words, some_word, event_again)

pub event_read : (version : ℕ) (bytes : List ℕ) (r : Option (Event × ℕ))
    → IfSome r (λ x. StandsAt bytes 0 (line (event_words x.0)) x.1) → IfSome r (λ x. EventFits x.0)
    → IfSome r (λ x. first_version x.0 ≤ version) → IfSome r (λ x. IsAtFront (event_at version) bytes x.0 x.1)
event_read version bytes r stands fits has = grind (arith, nat_tests, event_stands, le-leb)
