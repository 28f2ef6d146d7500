-- What is at a place of some bytes, part by part.
use Rattle.std.proofs.Common.{◌≡◌, ◌≢◌, ℕ, ◌+◌, ◌-◌, ◌*◌, ◌^◌, ◌<◌, ◌≤◌, List, [], ◌∷◌, ◌++◌, length, get_or, drop, refl, sym}
use Rattle.std.proofs.Common.{ap, subst, ◌∙◌, append_assoc, arith}
use Rattle.std.proofs.lemmas.{List.drop_more, Nat.le_bytes_4, Nat.pow-add, Nat.pow_below, Bool.Decides.nat_tests}
use Rattle.std.specs.{Char.IsAsciiDigit, Fmt.decimal, Int.w32, Int.from_le_bytes, Int.to_le_bytes}
use Rattle.monk_history.proofs.TextLaws.NextWords.{digit-first, digit-more}
use Rattle.monk_history.specs.Text.Places.{StandsAt}

-- one after the other
pub stands_then : {bytes x y : List ℕ} {p q r : ℕ} → StandsAt bytes p x q → StandsAt bytes q y r
    → StandsAt bytes p (x ++ y) r
stands_then {bytes = bytes} {x = x} {y = y} {r = r} a b =
    record {
      is = a.is ∙ (ap (λ z. x ++ z) b.is ∙ sym (append_assoc x y (drop r bytes)));
      within = b.within;
    }

-- the same bytes, written in another way
pub stands_as : {bytes x y : List ℕ} {p q : ℕ} → StandsAt bytes p x q → x ≡ y → StandsAt bytes p y q
stands_as {bytes = bytes} {p = p} {q = q} a same = subst (λ (z : List ℕ). StandsAt bytes p z q) same a

pub byte_stands : (bytes : List ℕ) (p b : ℕ) → p < length bytes → get_or bytes p 0 ≡ b
    → StandsAt bytes p (b ∷ []) (p + 1)
byte_stands bytes p b l is =
    record {
      is = drop_more bytes p 0 l ∙ ap (λ c. c ∷ drop (p + 1) bytes) is;
      within = omega arith;
    }

pub two_stand : (bytes two : List ℕ) (p : ℕ) → p + 2 ≤ length bytes
    → get_or bytes p 0 ∷ get_or bytes (p + 1) 0 ∷ [] ≡ two
    → StandsAt bytes p two (p + 2)
two_stand bytes two p l is =
    let a = byte_stands bytes p (get_or bytes p 0) (omega arith) refl in
    let b = byte_stands bytes (p + 1) (get_or bytes (p + 1) 0) (omega arith) refl in
    let end : p + 1 + 1 ≡ p + 2 = omega arith in
    subst (λ (q : ℕ). StandsAt bytes p two q) end (stands_as (stands_then a b) is)

pub four_stand : (bytes four : List ℕ) (p : ℕ) → p + 4 ≤ length bytes
    → get_or bytes p 0 ∷ get_or bytes (p + 1) 0 ∷ get_or bytes (p + 2) 0 ∷ get_or bytes (p + 3) 0 ∷ [] ≡ four
    → StandsAt bytes p four (p + 4)
four_stand bytes four p l is =
    let a = two_stand bytes (get_or bytes p 0 ∷ get_or bytes (p + 1) 0 ∷ []) p (omega arith) refl in
    let third : get_or bytes (p + 2 + 1) 0 ≡ get_or bytes (p + 3) 0 = ap (λ q. get_or bytes q 0) (omega arith) in
    let b = two_stand bytes (get_or bytes (p + 2) 0 ∷ get_or bytes (p + 3) 0 ∷ []) (p + 2) (omega arith)
    (ap (λ c. get_or bytes (p + 2) 0 ∷ c ∷ []) third) in
    let end : p + 2 + 2 ≡ p + 4 = omega arith in
    subst (λ (q : ℕ). StandsAt bytes p four q) end (stands_as (stands_then a b) is)

pub four_same : (xs ys : List ℕ) → length xs ≡ 4 → length ys ≡ 4 → ((i : ℕ) → get_or xs i 0 < 256)
    → ((i : ℕ) → get_or ys i 0 < 256)
    → from_le_bytes w32 xs ≡ from_le_bytes w32 ys → xs ≡ ys
four_same xs ys lx ly bx by_ same =
    sym (le_bytes_4 xs (from_le_bytes w32 xs) lx bx refl)
    ∙ (ap (to_le_bytes w32) same ∙ le_bytes_4 ys (from_le_bytes w32 ys) ly by_ refl)

-- ---- numbers, digit by digit

pub number_begins : (bytes : List ℕ) (p q d n : ℕ) → p < length bytes → get_or bytes p 0 ≡ d → IsAsciiDigit d
    → q ≡ p + 1
    → n ≡ d - 48 → drop p bytes ≡ decimal n ++ drop q bytes
number_begins bytes p q d n l is digit next value = grind (arith, nat_tests, digit-first, drop_more)

pub number_goes_on : (bytes : List ℕ) (p q r n d m : ℕ) → drop p bytes ≡ decimal n ++ drop q bytes → q < length bytes
    → get_or bytes q 0 ≡ d → IsAsciiDigit d → n ≢ 0 → n < 2 ^ 59 → r ≡ q + 1 → m ≡ n * 10 + (d - 48)
    → drop p bytes ≡ decimal m ++ drop r bytes
number_goes_on bytes p q r n d m so_far l is digit some lt next value =
    rw (next, value) (digit-more n d (drop p bytes) (drop q bytes) (drop (q + 1) bytes) so_far
    (drop_more bytes q 0 l ∙ ap (λ c. c ∷ drop (q + 1) bytes) is) digit some lt)

pub number_stands : (bytes : List ℕ) (p q r n e : ℕ) → drop p bytes ≡ decimal n ++ drop q bytes → q < length bytes
    → get_or bytes q 0 ≡ e → r ≡ q + 1 → StandsAt bytes p (decimal n ++ e ∷ []) r
number_stands bytes p q r n e so_far l is next =
    rw next (stands_then (record { is = so_far; within = omega arith }) (byte_stands bytes q e l is))

-- a number of k digits is below this. One of at most ten digits is far below what fits
pub digits_grow : (n d k : ℕ) → n < 2 ^ (4 * k) → d ≤ 9 → n * 10 + d < 2 ^ (4 * (k + 1))
digits_grow n d k lt le =
    let e : 4 * (k + 1) ≡ 4 * k + 4 = omega arith in
    let p = pow-add 2 (4 * k) 4 in
    rw (e, p) (omega arith)

pub digits_few : (n k : ℕ) → n < 2 ^ (4 * k) → k ≤ 10 → n < 2 ^ 41
digits_few n k lt le = omega (arith, pow_below (4 * k) 41 (omega arith))
