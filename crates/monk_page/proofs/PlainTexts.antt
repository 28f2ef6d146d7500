-- Texts that stay unchanged in markup and in JSON: numbers, and what is put together from such texts
use Rattle.std.proofs.Common.{◌≡◌, ◌<◌, ◌≤◌, ◌/◌, ◌%◌, ◌==◌, ◌&&◌, ℕ, zero, suc, Bool, true, false, not, cond, List, [], ◌∷◌, ◌++◌, refl, arith, mod-lt}
use Rattle.std.proofs.lemmas.{Bool.and_parts, Bool.Decides.nat_tests, List.Folds.list_all-append}
use Rattle.std.specs.{Fmt.decimal, Fmt.digit_glyph, Fmt.digits, Fmt.digits_onto, List.join_with_byte, List.list_all}
use Rattle.json.{specs.Print.escape, proofs.Printed.Strings.escape_byte_plain}
use Rattle.monk_page.specs.Plain.{is_plain_byte, is_plain_text}

-- a byte that markup shows unchanged and that JSON writes unchanged
abbrev pub is_bare_byte : ℕ → Bool
is_bare_byte b = is_plain_byte b && not (b == 34) && not (b == 92)

-- a text of such bytes
abbrev pub is_bare : List ℕ → Bool
is_bare bytes = list_all is_bare_byte bytes

pub all_append : (test : ℕ → Bool) (s t : List ℕ) → list_all test s ≡ true → list_all test t ≡ true
    → list_all test (s ++ t) ≡ true
all_append test s t p q = rw (list_all-append test s t, p, q) refl

pub bare_append : (s t : List ℕ) → is_bare s ≡ true → is_bare t ≡ true → is_bare (s ++ t) ≡ true
bare_append s t p q = all_append is_bare_byte s t p q

digit_bare : (d : ℕ) → d < 10 → is_bare_byte (digit_glyph false d) ≡ true
digit_bare d l = grind (arith, nat_tests)

either : (b : Bool) (s t : List ℕ) → is_bare s ≡ true → is_bare t ≡ true → is_bare (cond b s t) ≡ true
either b s t p q = grind (arith, nat_tests)

digits_bare : (k n : ℕ) (acc : List ℕ) → is_bare acc ≡ true → is_bare (digits_onto k 10 false n acc) ≡ true
digits_bare zero n acc p = p
digits_bare (suc k) n acc p =
    let digit = digit_bare (n % 10) (mod-lt n (omega arith)) in
    either (n / 10 == 0) _ _ (rw digit p) (digits_bare k (n / 10) _ (rw digit p))

pub bare_decimal : (n : ℕ) → is_bare (decimal n) ≡ true
unfolding digits
bare_decimal n = digits_bare 64 n [] refl

pub bare_join : (words : List (List ℕ)) → list_all is_bare words ≡ true → is_bare (join_with_byte 32 words) ≡ true
bare_join [] p = refl
bare_join (w ∷ []) p = grind arith
bare_join (w ∷ v ∷ words) p = grind (arith, bare_append, bare_join (v ∷ words))

-- ---- in quotes, and as numbers

bare_is : (x : ℕ) → is_bare_byte x ≡ true
    → (x ≡ 34 → ⊥) × (x ≡ 92 → ⊥) × (32 ≤ x) × (is_plain_byte x ≡ true)
bare_is x p = grind (arith, nat_tests)

-- JSON writes such a text unchanged, and markup shows it so
pub bare_text : (s : List ℕ) → is_bare s ≡ true → (escape s ≡ s) × (is_plain_text s ≡ true)
bare_text [] p = (refl, refl)
bare_text (x ∷ s) p =
    let parts = and_parts (is_bare_byte x) (is_bare s) p in
    let byte = bare_is x parts.0 in
    let rest = bare_text s parts.1 in
    (rw (escape_byte_plain x byte.0 byte.1 byte.2, rest.0) refl, rw (byte.3, rest.1) refl)
