-- An operation with the reply 0 changes nothing. The objects say this about themselves, so it is
-- here and not among the proofs.
use Rattle.std.proofs.Common.{◌≡◌, ℕ, ◌+◌, ◌==◌, Bool, true, false, cond, List, [], ◌∷◌, ◌++◌, length, drop, refl, sym, ap, ◌∙◌, add-one}
use Rattle.std.{proofs.Math.Dec.eqb-suc-zero, proofs.lemmas.Bool.false≢true, specs.Prelude.nat_lt}
use Rattle.monk_object.specs.{Book.book_serves, Book.book_served, Shop.shop_serves, Shop.shop_served}
use Rattle.monk_object.specs.{Flags.flags_serves, Names.meaning_named, Object.KeepsWhatItRefuses}
use Rattle.monk_object.specs.Buffer.{PUT, TAKE, take_reply}
use Rattle.monk_object.specs.declared.name.ObjectName.{ObjectName}
use Rattle.monk_object.specs.declared.name.ObjectName.TheVariants.{Buffer, Book, Shop, Flags}

one_is_more : ◌≡◌ {A = ℕ} 1 0 → ⊥
one_is_more e = false≢true (ap (λ n. n == 0) e)

one_more_is_more : (n : ℕ) → n + 1 ≡ 0 → ⊥
one_more_is_more n e = false≢true (sym (eqb-suc-zero n) ∙ ap (λ m. m == 0) (sym (add-one n) ∙ e))

items_stay : (put take room : Bool) (items : List ℕ) (arg : ℕ)
    → ◌≡◌ {A = ℕ} (cond put (cond room 1 0) (cond take (take_reply items) 0)) 0
    → cond put (cond room (items ++ arg ∷ []) items) (cond take (drop 1 items) items) ≡ items
items_stay true take true items arg e = absurd (one_is_more e)
items_stay true take false items arg e = refl
items_stay false true room [] arg e = refl
items_stay false true room (x ∷ xs) arg e = absurd (one_more_is_more x e)
items_stay false false room items arg e = refl

state_stays : (served : Bool) (next state : List ℕ) → ◌≡◌ {A = ℕ} (cond served 1 0) 0 → cond served next state ≡ state
state_stays true next state e = absurd (one_is_more e)
state_stays false next state e = refl

-- for each object: an operation with the reply 0 changes nothing
pub refused : (o : ObjectName) → KeepsWhatItRefuses (meaning_named o)
refused Buffer [] op e = refl
refused Buffer (size ∷ items) op e =
    ap (λ xs. size ∷ xs) (items_stay (op.code == PUT) (op.code == TAKE) (nat_lt (length items) size) items op.arg e)
refused Book [] op e = refl
refused Book (size ∷ []) op e = refl
refused Book (size ∷ readers ∷ []) op e = refl
refused Book (size ∷ readers ∷ writing ∷ more) op e =
    state_stays (book_serves size readers writing op.code) (book_served size readers writing op.code)
    (size ∷ readers ∷ writing ∷ more) e
refused Shop [] op e = refl
refused Shop (size ∷ []) op e = refl
refused Shop (size ∷ sitting ∷ []) op e = refl
refused Shop (size ∷ sitting ∷ chair ∷ more) op e =
    state_stays (shop_serves size sitting chair op.code) (shop_served size sitting chair op.code)
    (size ∷ sitting ∷ chair ∷ more) e
refused Flags [] op e = refl
refused Flags (size ∷ []) op e = refl
refused Flags (size ∷ bits ∷ more) op e = state_stays (flags_serves size op) (size ∷ op.arg ∷ []) (size ∷ bits ∷ more) e
