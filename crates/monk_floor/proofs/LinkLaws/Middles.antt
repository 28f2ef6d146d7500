-- A seat is looked for in a list, and taken out of it
use Rattle.std.proofs.Common.{◌≡◌, ◌≢◌, ℕ, zero, suc, ◌<◌, ◌≤◌, ◌+◌, ◌==◌, Bool, true, false, cond, not, Some, None, List, [], ◌∷◌}
use Rattle.std.proofs.Common.{length, refl, sym, ap, subst, ◌∙◌, arith, eq-eqb, eqb-true, get_or, get_or-set_same, get_or-set_other, ⊎_elim}
use Rattle.std.{specs.Prelude.slice_set, proofs.lemmas.Bool.cases_eq, proofs.lemmas.Bool.Decides.nat_tests}
use Rattle.monk_history.specs.Meaning.Standing.{times}
use Rattle.monk_floor.proofs.LinkLaws.Walks.{walk-set, ends_there, other, rest, behind}
use Rattle.monk_floor.specs.Links.{walk, EndsWith, without, seat_before}

one_of : (x s : ℕ) → x ≡ s → ◌≡◌ {A = ℕ} (cond (x == s) 1 0) 1
one_of x s e = ap (λ b. cond b 1 0) (eq-eqb x s e)

pub keeps : (s x : ℕ) (xs : List ℕ) → (x ≡ s → ⊥) → without s (x ∷ xs) ≡ x ∷ without s xs
keeps s x xs h = grind (arith, nat_tests)

pub skips : (s x : ℕ) (xs : List ℕ) → x ≡ s → without s (x ∷ xs) ≡ without s xs
skips s x xs e = ap (λ b. cond (not b) (x ∷ without s xs) (without s xs)) (eq-eqb s x (sym e))

pub times_none : (s : ℕ) (xs : List ℕ) → times s xs ≡ 0 → without s xs ≡ xs
times_none s [] h = refl
times_none s (x ∷ xs) h = keeps s x xs (other x s _ h) ∙ ap (λ ys. x ∷ ys) (times_none s xs (rest x s _ h))

pub times_without : (s x : ℕ) (xs : List ℕ) → times x (without s xs) ≤ times x xs
times_without s x [] = omega arith
times_without s x (y ∷ ys) =
    ⊎_elim
    (λ e. let less : times x (without s (y ∷ ys)) ≡ times x (without s ys) = ap (times x) (skips s y ys e) in
    omega (arith, less, times_without s x ys))
    (λ d. let same : times x (without s (y ∷ ys)) ≡ cond (y == x) 1 0 + times x (without s ys) =
    ap (times x) (keeps s y ys d) in
    omega (arith, same, times_without s x ys))
    (cases_eq y s)

-- the seat just before another: the first one, or one further on
first_before : (s x y : ℕ) (ys : List ℕ) → y ≡ s → seat_before s (x ∷ y ∷ ys) ≡ Some x
first_before s x y ys e = ap (λ b. cond b (Some x) (seat_before s (y ∷ ys))) (eq-eqb y s e)

pub later_before : (s x y : ℕ) (ys : List ℕ) → (y ≡ s → ⊥) → seat_before s (x ∷ y ∷ ys) ≡ seat_before s (y ∷ ys)
later_before s x y ys h = grind (arith, nat_tests)

same_some : (x y : ℕ) → Some x ≡ Some y → x ≡ y
same_some x y e = cc

-- both are in the list
pub before_there : (s b : ℕ) (xs : List ℕ) → seat_before s xs ≡ Some b → 1 ≤ times b xs
before_there s b [] h = absurd (cc)
before_there s b (x ∷ []) h = absurd (cc)
before_there s b (x ∷ y ∷ ys) h =
    ⊎_elim
    (λ e. omega (arith, one_of x b (same_some x b (sym (first_before s x y ys e) ∙ h))))
    (λ d. let later = before_there s b (y ∷ ys) (sym (later_before s x y ys d) ∙ h) in omega (arith, later))
    (cases_eq y s)

pub seat_there : (s b : ℕ) (xs : List ℕ) → seat_before s xs ≡ Some b → 1 ≤ times s xs
seat_there s b [] h = absurd (cc)
seat_there s b (x ∷ []) h = absurd (cc)
seat_there s b (x ∷ y ∷ ys) h =
    ⊎_elim
    (λ e. omega (arith, one_of y s e))
    (λ d. let later = seat_there s b (y ∷ ys) (sym (later_before s x y ys d) ∙ h) in omega (arith, later))
    (cases_eq y s)

-- there is no seat before a seat that isn't in the list
pub absent : (s x : ℕ) (xs : List ℕ) → (x ≡ s → ⊥) → seat_before s (x ∷ xs) ≡ None → without s (x ∷ xs) ≡ x ∷ xs
absent s x [] d h = keeps s x [] d
absent s x (y ∷ ys) d h =
    keeps s x (y ∷ ys) d ∙ ap (λ zs. x ∷ zs)
    (⊎_elim (λ e. absurd (let some : Some x ≡ None = sym (first_before s x y ys e) ∙ h in cc))
    (λ f. absent s y ys f (sym (later_before s x y ys f) ∙ h))
    (cases_eq y s))

-- with the links past a seat, the list is without it
pub walk-unlink : (next : List ℕ) (n f s b : ℕ) → seat_before s (walk next (suc n) f) ≡ Some b
    → times b (walk next (suc n) f) ≤ 1 → times s (walk next (suc n) f) ≤ 1 → b < length next
    → walk (slice_set next b (get_or next s 0)) n f ≡ without s (walk next (suc n) f)
unfolding walk
walk-unlink next zero f s b h o p l = absurd (cc)
walk-unlink next (suc n) f s b h o p l =
    let g = get_or next f 0 in
    let v = get_or next s 0 in
    let tail = walk next n (get_or next g 0) in
    ⊎_elim
    (λ e.
    let here : f ≡ b = same_some f b (sym (first_before s f g tail e) ∙ h) in
    let alone : f ≢ s = behind f s _ p (omega (arith, one_of g s e)) in
    let link : get_or (slice_set next b v) f 0 ≡ get_or next g 0 = grind (arith, nat_tests, get_or-set_same) in
    let gone : times b tail ≡ 0 = omega (arith, o, one_of f b here) in
    let none : times s tail ≡ 0 = omega (arith, p, one_of g s e) in
    ap (λ ys. f ∷ ys) (ap (walk (slice_set next b v) n) link ∙ walk-set next n (get_or next g 0) b v gone)
    ∙ sym (keeps s f (g ∷ tail) alone ∙ ap (λ ys. f ∷ ys) (skips s g tail e ∙ times_none s tail none)))
    (λ d.
    let later : seat_before s (g ∷ tail) ≡ Some b = sym (later_before s f g tail d) ∙ h in
    let apart : f ≢ b = behind f b _ o (before_there s b (g ∷ tail) later) in
    let alone : f ≢ s = behind f s _ p (seat_there s b (g ∷ tail) later) in
    ap (λ ys. f ∷ ys)
    (ap (walk (slice_set next b v) n) (get_or-set_other next b f v 0 apart)
    ∙ walk-unlink next n g s b later (omega (arith, o)) (omega (arith, p)) l)
    ∙ sym (keeps s f (g ∷ tail) alone))
    (cases_eq g s)

-- its last seat is still the last one, or it is the one before
pub ends_without : (xs : List ℕ) (s b l : ℕ) → EndsWith xs l → seat_before s xs ≡ Some b → times s xs ≤ 1
    → EndsWith (without s xs) (cond (l == s) b l)
ends_without [] s b l e h p = absurd (cc)
ends_without (x ∷ []) s b l e h p = absurd (cc)
ends_without (x ∷ y ∷ []) s b l e h p =
    ⊎_elim
    (λ q.
    let here : x ≡ b = same_some x b (sym (first_before s x y [] q) ∙ h) in
    let alone : x ≢ s = behind x s _ p (omega (arith, one_of y s q)) in
    subst (λ zs. EndsWith zs (cond (l == s) b l)) (sym (keeps s x (y ∷ []) alone ∙ ap (λ ys. x ∷ ys) (skips s y [] q)))
    (here ∙ ap (λ z. cond z b l) (sym (eq-eqb l s (sym e ∙ q)))))
    (λ d. absurd (let none : None ≡ Some b = sym (later_before s x y [] d) ∙ h in cc))
    (cases_eq y s)
ends_without (x ∷ y ∷ z ∷ zs) s b l e h p =
    ⊎_elim
    (λ q.
    let alone : x ≢ s = behind x s _ p (omega (arith, one_of y s q)) in
    let none : times s (z ∷ zs) ≡ 0 = omega (arith, p, one_of y s q) in
    let there = ends_there z zs l e in
    let still : (l ≡ s → ⊥) = grind (arith, nat_tests) in
    subst (λ ws. EndsWith ws (cond (l == s) b l))
    (sym (keeps s x (y ∷ z ∷ zs) alone ∙ ap (λ ys. x ∷ ys) (skips s y (z ∷ zs) q ∙ times_none s (z ∷ zs) none)))
    (subst (EndsWith (z ∷ zs)) (sym (when_not (l == s) b l (λ r. still (eqb-true l s r)))) e))
    (λ d.
    let later : seat_before s (y ∷ z ∷ zs) ≡ Some b = sym (later_before s x y (z ∷ zs) d) ∙ h in
    let alone : x ≢ s = behind x s _ p (seat_there s b (y ∷ z ∷ zs) later) in
    subst (λ ws. EndsWith ws (cond (l == s) b l))
    (sym (keeps s x (y ∷ z ∷ zs) alone ∙ ap (λ ys. x ∷ ys) (keeps s y (z ∷ zs) d)))
    (subst (λ ws. EndsWith ws (cond (l == s) b l)) (keeps s y (z ∷ zs) d)
    (ends_without (y ∷ z ∷ zs) s b l e later (omega (arith, p)))))
    (cases_eq y s)
  where
    when_not : (w : Bool) (b l : ℕ) → (w ≡ true → ⊥) → ◌≡◌ {A = ℕ} (cond w b l) l
    when_not true b l k = absurd (k refl)
    when_not false b l k = refl
