-- What is at the front of a line is its next word if the line ends after it, or if a byte 32 follows.
use Rattle.std.proofs.Common.{◌≡◌, ◌==◌, ◌≢◌, ℕ, ◌+◌, ◌-◌, ◌*◌, ◌^◌, ◌<◌, ◌≤◌, Bool, true, false, List, []}
use Rattle.std.proofs.Common.{◌∷◌, ◌++◌, length, take, drop, refl, sym, ap, ◌∙◌, append_assoc, arith}
use Rattle.std.proofs.lemmas.{Fmt.decimal_digit, Fmt.decimal_step, Slice.Eq.bytes_eq-Decides, Bool.Decides.nat_tests}
use Rattle.std.proofs.lemmas.List.{append-nil, Splits.join_with_byte-slice_split}
use Rattle.std.proofs.Math.Seq.{take-append_seam, drop-append_seam}
use Rattle.std.specs.{Char.IsAsciiDigit, Fmt.decimal, List.join_with_byte}
use Rattle.monk_history.proofs.TextLaws.LineCuts.{cut_at, cut_none, no_space, IsWord-decimal}
use Rattle.monk_history.specs.Text.Words.{Word, words_of, is_unbroken, is_next}

pub words-last : (word : Word) → is_unbroken word ≡ true → words_of (word ++ []) ≡ word ∷ []
words-last word plain = ap words_of (append-nil word) ∙ cut_none (λ b. b == 32) word plain

pub words-more : (word rest : List ℕ) → is_unbroken word ≡ true → words_of (word ++ 32 ∷ rest) ≡ word ∷ words_of rest
words-more word rest plain = cut_at (λ b. b == 32) word 32 rest plain refl

not_true : (b : Bool) → (b ≡ true → ⊥) → b ≡ false
not_true b h = grind (arith, nat_tests)

-- the bytes of a line whose next word is that one
begins : (word : Word) (parts : List Word) (bytes : List ℕ) → join_with_byte 32 parts ≡ bytes
    → is_next word parts ≡ true → (rest : List ℕ) × (bytes ≡ word ++ rest)
    × (rest ≢ [] → (after : List ℕ) × (rest ≡ 32 ∷ after))
begins word parts bytes same is = grind (arith, nat_tests, bytes_eq-Decides, append-nil)

begins_with : (word bytes : List ℕ) → is_next word (words_of bytes) ≡ true → (rest : List ℕ) × (bytes ≡ word ++ rest)
    × (rest ≢ [] → (after : List ℕ) × (rest ≡ 32 ∷ after))
begins_with word bytes is = begins word (words_of bytes) bytes (join_with_byte-slice_split 32 bytes) is

pub is_next-other : (word bytes : List ℕ) → take (length word) bytes ≢ word → is_next word (words_of bytes) ≡ false
is_next-other word bytes other = grind (arith, nat_tests, not_true, begins_with, take-append_seam)

pub is_next-longer : (word rest : List ℕ) (c : ℕ) → c ≢ 32 → is_next word (words_of (word ++ c ∷ rest)) ≡ false
is_next-longer word rest c ne =
    not_true _ (λ is.
    let h = begins_with word (word ++ c ∷ rest) is in
    let same : c ∷ rest ≡ h.0 = sym (drop-append_seam word (c ∷ rest)) ∙ ap (drop (length word)) h.1
    ∙ drop-append_seam word h.0 in
    let some : h.0 ≢ [] = λ none. let bad : c ∷ rest ≡ [] = same ∙ none in absurd cc in
    let h2 = h.2 some in
    let first : c ∷ rest ≡ 32 ∷ h2.0 = same ∙ h2.1 in
    ne (cc))

-- ---- a number, digit by digit

decimal-byte : (d : ℕ) → 48 ≤ d → d ≤ 57 → decimal (d - 48) ≡ d ∷ []
decimal-byte d low high = decimal_digit (d - 48) (omega arith) ∙ ap (λ n. n ∷ []) (omega arith)

pub digit-first : (d : ℕ) (line behind : List ℕ) → line ≡ d ∷ behind → IsAsciiDigit d
    → line ≡ decimal (d - 48) ++ behind
digit-first d line behind is digit = grind (arith, nat_tests, decimal-byte)

last-digit : (n d : ℕ) → 48 ≤ d → d ≤ 57 → 0 < n → n < 2 ^ 59 → decimal (n * 10 + (d - 48)) ≡ decimal n ++ d ∷ []
last-digit n d low high some lt = grind (arith, nat_tests, decimal_step)

pub digit-more : (n d : ℕ) (line rest behind : List ℕ) → line ≡ decimal n ++ rest → rest ≡ d ∷ behind → IsAsciiDigit d
    → n ≢ 0 → n < 2 ^ 59 → line ≡ decimal (n * 10 + (d - 48)) ++ behind
digit-more n d line rest behind so_far is digit some lt = grind (arith, nat_tests, append_assoc, last-digit)

number-unbroken : (n : ℕ) → n < 2 ^ 64 → is_unbroken (decimal n) ≡ true
number-unbroken n lt = no_space (decimal n) (IsWord-decimal n lt)

pub number-last : (n : ℕ) (line rest : List ℕ) → line ≡ decimal n ++ rest → rest ≡ [] → n < 2 ^ 64
    → words_of line ≡ decimal n ∷ []
number-last n line rest so_far none lt = grind (arith, nat_tests, words-last, number-unbroken)

pub number-ends : (n d : ℕ) (line rest behind : List ℕ) → line ≡ decimal n ++ rest → rest ≡ d ∷ behind → d ≡ 32
    → n < 2 ^ 64 → words_of line ≡ decimal n ∷ words_of behind
number-ends n d line rest behind so_far is space lt = grind (arith, nat_tests, words-more, number-unbroken)
