-- A walk from link to link, after a link has changed
use Rattle.std.proofs.Common.{◌≡◌, ◌≢◌, ℕ, zero, suc, ◌<◌, ◌≤◌, ◌+◌, ◌==◌, cond, List, [], ◌∷◌, ◌++◌}
use Rattle.std.proofs.Common.{length, drop, refl, ap, ◌∙◌, arith, eq-eqb, get_or, get_or-set_same, get_or-set_other}
use Rattle.std.specs.Prelude.{slice_set}
use Rattle.monk_history.specs.Meaning.Standing.{times}
use Rattle.monk_floor.specs.Links.{walk, EndsWith}

-- a seat that is not in a list is not its front
pub other : (x s n : ℕ) → cond (x == s) 1 0 + n ≡ 0 → x ≢ s
other x s n h e = omega (arith, h, ap {B = ℕ} (λ b. cond b 1 0) (eq-eqb x s e))

pub rest : (x s n : ℕ) → cond (x == s) 1 0 + n ≡ 0 → n ≡ 0
rest x s n h = omega (arith, h)

-- a seat that is at most once in a list, and after its front, is not the front
pub behind : (x s n : ℕ) → cond (x == s) 1 0 + n ≤ 1 → 1 ≤ n → x ≢ s
behind x s n h l e = omega (arith, h, l, ap {B = ℕ} (λ b. cond b 1 0) (eq-eqb x s e))

pub length-walk : (next : List ℕ) (n f : ℕ) → length (walk next n f) ≡ n
unfolding walk
length-walk next zero f = refl
length-walk next (suc n) f = ap suc (length-walk next n (get_or next f 0))

-- a link of a seat that the walk does not meet has changed
pub walk-set : (next : List ℕ) (n f l v : ℕ) → times l (walk next n f) ≡ 0
    → walk (slice_set next l v) n f ≡ walk next n f
unfolding walk
walk-set next zero f l v h = refl
walk-set next (suc n) f l v h =
    ap (λ ys. f ∷ ys)
    (ap (walk (slice_set next l v) n) (get_or-set_other next l f v 0 (other f l _ h))
    ∙ walk-set next n (get_or next f 0) l v (rest f l _ h))

pub ends_there : (x : ℕ) (xs : List ℕ) (l : ℕ) → EndsWith (x ∷ xs) l → 1 ≤ times l (x ∷ xs)
ends_there x [] l e = omega (arith, ap {B = ℕ} (λ b. cond b 1 0) (eq-eqb x l e))
ends_there x (y ∷ ys) l e = omega (arith, ends_there y ys l e)

pub ends_push : (xs : List ℕ) (s : ℕ) → EndsWith (xs ++ s ∷ []) s
ends_push [] s = refl
ends_push (x ∷ []) s = refl
ends_push (x ∷ y ∷ ys) s = ends_push (y ∷ ys) s

pub ends_drop : (xs : List ℕ) (l : ℕ) → EndsWith xs l → EndsWith (drop 1 xs) l
ends_drop [] l e = e
ends_drop (x ∷ []) l e = tt
ends_drop (x ∷ y ∷ ys) l e = e

-- a seat is linked to the last one
pub walk-push : (next : List ℕ) (n f l s : ℕ) → EndsWith (walk next (suc n) f) l → times l (walk next (suc n) f) ≤ 1
    → l < length next → walk (slice_set next l s) (suc (suc n)) f ≡ walk next (suc n) f ++ s ∷ []
unfolding walk
walk-push next zero f l s e o b =
    ap (λ x. f ∷ x ∷ []) (ap (λ x. get_or (slice_set next l s) x 0) e ∙ get_or-set_same next l s 0 b)
walk-push next (suc n) f l s e o b =
    let there : 1 ≤ times l (walk next (suc n) (get_or next f 0)) = ends_there (get_or next f 0) _ l e in
    ap (λ ys. f ∷ ys)
    (ap (walk (slice_set next l s) (suc (suc n))) (get_or-set_other next l f s 0 (behind f l _ o there))
    ∙ walk-push next n (get_or next f 0) l s e (omega (arith, o)) b)
