-- The two halves of the ticket word
use Rattle.std.proofs.Common.{◌≡◌, ℕ, suc, ◌+◌, ◌-◌, ◌*◌, ◌%◌, ◌<◌, ap, ◌∙◌, arith}
use Rattle.std.proofs.{lemmas.Nat.mod-mul-add, lemmas.Nat.div-mul-add, Math.Nat.mod-add-div'}
use Rattle.monk_hall.specs.Layout.{tickets, unpassed}
use Rattle.std.proofs.lemmas.Bool.Decides.{nat_tests}

abbrev pub packed : ℕ → ℕ → ℕ
packed t n = t * 4294967296 + n

pub tickets_of : (t n : ℕ) → n < 4294967296 → tickets (packed t n) ≡ t
tickets_of t n h = div-mul-add t 4294967296 n h

pub unpassed_of : (t n : ℕ) → n < 4294967296 → unpassed (packed t n) ≡ n
unpassed_of t n h = mod-mul-add t 4294967296 n h

pub word_is : (x : ℕ) → x ≡ packed (tickets x) (unpassed x)
word_is x = let e = mod-add-div' x 4294967296 in omega arith

reduced : (x : ℕ) → x < 18446744073709551616 → x % 18446744073709551616 ≡ x
reduced x h = omega (arith, mod-mul-add)

drawn_word : (t n : ℕ) → t < 2147483648 → n < 2147483648
    → (packed t n + 4294967297) % 18446744073709551616 ≡ packed (suc t) (suc n)
drawn_word t n a b = omega (arith, reduced)

dropped_word : (t n : ℕ) → t < 2147483648 → n < 2147483648
    → (packed t (suc n) + 18446744073709551615) % 18446744073709551616 ≡ packed t n
dropped_word t n a b = omega (arith, mod-mul-add)

-- the word after an arrival, and after a seat took itself off
pub record HasHalves (x t n : ℕ) : Type 0 where
  pub drawn : tickets x ≡ t
  pub waiting : unpassed x ≡ n

halves : (x t n : ℕ) → n < 4294967296 → x ≡ packed t n → HasHalves x t n
halves x t n h e = record { drawn = ap tickets e ∙ tickets_of t n h; waiting = ap unpassed e ∙ unpassed_of t n h }

pub after_draw : (x : ℕ) → tickets x < 2147483648 → unpassed x < 2147483648
    → HasHalves ((x + 4294967297) % 18446744073709551616) (tickets x + 1) (unpassed x + 1)
after_draw x a b =
    halves ((x + 4294967297) % 18446744073709551616) (tickets x + 1) (unpassed x + 1) (omega arith)
    (ap (λ (y : ℕ). (y + 4294967297) % 18446744073709551616) (word_is x) ∙ drawn_word (tickets x) (unpassed x) a b
    ∙ (let e : packed (suc (tickets x)) (suc (unpassed x)) ≡ packed (tickets x + 1) (unpassed x + 1) = omega arith
    in e))

pub after_take_off : (x : ℕ) → tickets x < 2147483648 → unpassed x < 2147483648 → 0 < unpassed x
    → HasHalves ((x + 18446744073709551615) % 18446744073709551616) (tickets x) (unpassed x - 1)
after_take_off x a b some =
    let more : unpassed x ≡ suc (unpassed x - 1) = omega arith in
    grind (arith, nat_tests, halves, word_is, dropped_word)
