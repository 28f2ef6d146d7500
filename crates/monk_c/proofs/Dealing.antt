-- A new hall and its passes, by their seats
use Rattle.std.proofs.Common.{◌≡◌, ℕ, zero, suc, ◌+◌, ◌<◌, ◌≤◌, max}
use Rattle.std.proofs.Common.{List, length, slice_index_or, refl, ap, sym, subst, ◌∙◌, arith}
use Rattle.std.proofs.{Math.Nat.not-suc-le-zero, Math.Nat.le_of_suc-le-suc, lemmas.Bool.Decides.nat_tests}
use Rattle.std.specs.Prelude.{None}
use Rattle.atomic_table.specs.Seated.{TableId}
use Rattle.monk_hall.specs.{Records.opening_record, Records.opening_records, Records.first_view, Tokens.House}
use Rattle.monk_hall.specs.{Tokens.Token, Tokens.tokens, declared.setting.Setting.Setting, Rule.setting_of}
use Rattle.monk_floor.specs.Making.{make_refusal}
use Rattle.monk_c.specs.{declared.numbers.Numbers.Numbers, Stands.RoomView}
use Rattle.monk_c.specs.Dealing.{ArePasses, IsMadeOf, fresh_pass}
use Rattle.monk_object.specs.{Names.opening_named, declared.name.ObjectName.TheVariants.Flags as FlagsName}

abbrev fresh : TableId → Setting → ℕ → Token
fresh z c i = record { hall = z; me = opening_record c i }

dealt_from : (z : TableId) (c : Setting) (n j i : ℕ) (d : Token) → i < length (tokens z (opening_records c n j))
    → slice_index_or (tokens z (opening_records c n j)) i d ≡ fresh z c (j + i)
dealt_from z c zero j i d low = absurd (not-suc-le-zero low)
dealt_from z c (suc n) j zero d low = ap (λ (k : ℕ). fresh z c k) (grind arith)
dealt_from z c (suc n) j (suc i) d low =
    dealt_from z c n (suc j) i d (le_of_suc-le-suc low) ∙ ap (λ (k : ℕ). fresh z c k) (grind arith)

how_many : (z : TableId) (c : Setting) (n j : ℕ) → length (tokens z (opening_records c n j)) ≡ n
how_many z c zero j = refl
how_many z c (suc n) j = ap suc (how_many z c n (suc j))

all_seats : (z : TableId) (c : Setting) (ps : List Token) → ps ≡ tokens z (first_view c) → length ps ≡ c.seats
all_seats z c ps e = ap (λ (xs : List Token). length xs) e ∙ how_many z c c.seats 0

pub are_passes : (r : RoomView) (ps : List Token) → ps ≡ tokens r.house.id (first_view r.house.setting) → ArePasses r ps
are_passes r ps e =
    subst (λ (xs : List Token). (i : ℕ) (d : Token) → i < length xs → slice_index_or xs i d ≡ fresh_pass r i) (sym e)
    (λ i d low. dealt_from r.house.id r.house.setting r.house.setting.seats 0 i d low
    ∙ ap (λ (k : ℕ). fresh r.house.id r.house.setting k) (grind arith))

-- a hall that was made is made of numbers in range, and has a pass for each seat
module _ (n : Numbers) (h : House) (object : List ℕ) (size : ℕ) (e : size ≡ max n.flags 1) (low : size ≤ 32)
    (opens : object ≡ opening_named FlagsName size) (none : make_refusal n.seats n.conds n.budget ≡ None)
    (setting : h.setting ≡ setting_of object n.seats n.conds n.budget) where
  pub is_made : IsMadeOf n (record { house = h; flags = n.flags })
  is_made = grind (arith, nat_tests)

  pub as_many : (ps : List Token) → ps ≡ tokens h.id (first_view h.setting) → length ps ≡ n.seats
  as_many ps f = all_seats h.id h.setting ps f ∙ ap (λ (c : Setting). c.seats) setting
