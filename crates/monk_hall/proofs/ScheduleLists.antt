-- The lists that a schedule of steps adds up to, with one more step
use Rattle.std.proofs.Common.{◌≡◌, ◌≢◌, ℕ, cond, Bool, true, false, List, [], ◌∷◌, ◌++◌, length, sym, refl, ap, ◌∙◌}
use Rattle.std.proofs.{lemmas.List.Sums.sum_by-append, Math.Option.some-injective}
use Rattle.std.proofs.Common.{arith, eq-eqb, ne_eqb, append-nil, append_assoc, length-append}
use mathlib.Core.Option.{some}
use lib.ListN.{get_elem?}
use Rattle.monk_history.specs.Meaning.{Counts.events_of, Counts.enters_of, Counts.is_enter, Events.seat_of}
use Rattle.monk_history.specs.declared.event.Event.{Event}
use Rattle.monk_hall.specs.{Floors.ArePrivate, declared.deed.Deed.Deed}
use Rattle.monk_hall.specs.Schedules.{Step, brought, brought_in, deeds_by, deeds_in, arrivals, drew_in, entered}
use Rattle.monk_hall.specs.Deeds.{brings, brought_home, knows_after, knows_from}

pub brought_push : (xs : List Step) (x : Step) → brought (xs ++ x ∷ []) ≡ brought xs ++ brought_in x
brought_push [] x = append-nil (brought_in x)
brought_push (y ∷ ys) x = ap (λ (l : List Event). brought_in y ++ l) (brought_push ys x)
    ∙ sym (append_assoc (brought_in y) (brought ys) (brought_in x))

pub brought_append : (xs ys : List Step) → brought (xs ++ ys) ≡ brought xs ++ brought ys
brought_append [] ys = refl
brought_append (x ∷ xs) ys = ap (λ (l : List Event). brought_in x ++ l) (brought_append xs ys)
    ∙ sym (append_assoc (brought_in x) (brought xs) (brought ys))

pub deeds_push : (j : ℕ) (xs : List Step) (x : Step) → deeds_by j (xs ++ x ∷ []) ≡ deeds_by j xs ++ deeds_in j x
deeds_push j [] x = append-nil (deeds_in j x)
deeds_push j (y ∷ ys) x = ap (λ (l : List Deed). deeds_in j y ++ l) (deeds_push j ys x)
    ∙ sym (append_assoc (deeds_in j y) (deeds_by j ys) (deeds_in j x))

pub home_append : (ds es : List Deed) → brought_home (ds ++ es) ≡ brought_home ds ++ brought_home es
home_append [] es = refl
home_append (d ∷ ds) es = ap (λ (l : List Event). brings d ++ l) (home_append ds es)
    ∙ sym (append_assoc (brings d) (brought_home ds) (brought_home es))

pub knows_append : (b : Bool) (ds es : List Deed) → knows_from b (ds ++ es) ≡ knows_from (knows_from b ds) es
knows_append b [] es = refl
knows_append b (d ∷ ds) es = knows_append (knows_after b d) ds es

pub arrivals_push : (xs : List Step) (x : Step) → arrivals (xs ++ x ∷ []) ≡ arrivals xs ++ drew_in x
arrivals_push [] x = append-nil (drew_in x)
arrivals_push (y ∷ ys) x = ap (λ (l : List ℕ). drew_in y ++ l) (arrivals_push ys x)
    ∙ sym (append_assoc (drew_in y) (arrivals ys) (drew_in x))

abbrev entered_in : Event → List ℕ
entered_in e = cond (is_enter e) (seat_of e ∷ []) []

pub entered_append : (g h : List Event) → entered (g ++ h) ≡ entered g ++ entered h
entered_append [] h = refl
entered_append (e ∷ g) h = ap (λ (l : List ℕ). entered_in e ++ l) (entered_append g h)
    ∙ sym (append_assoc (entered_in e) (entered g) (entered h))

pub entered_long : (h : List Event) → length (entered h) ≡ enters_of h
unfolding enters_of
entered_long [] = refl
entered_long (e ∷ h) =
    let a = length-append (entered_in e) (entered h) in
    let b = one (is_enter e) in
    let d = sum_by-append (λ (x : Event). cond (is_enter x) 1 0) (e ∷ []) h in
    let f = entered_long h in
    omega arith
  where
    one : (b : Bool) → length (cond b (seat_of e ∷ []) []) ≡ cond b 1 0
    one true = refl
    one false = refl

-- each of these is an event of that seat
abbrev pub AreOf : ℕ → List Event → Type 0
AreOf i [] = Unit {0}
AreOf i (e ∷ es) = (seat_of e ≡ i) × AreOf i es

pub own_all : (i : ℕ) (es : List Event) → AreOf i es → events_of es i ≡ es
unfolding events_of
own_all i [] own = refl
own_all i (e ∷ es) own =
    ap (λ (b : Bool). cond b (e ∷ events_of es i) (events_of es i)) (eq-eqb (seat_of e) i own.0)
    ∙ ap (λ (l : List Event). e ∷ l) (own_all i es own.1)

pub own_none : (i j : ℕ) (es : List Event) → i ≢ j → AreOf i es → events_of es j ≡ []
unfolding events_of
own_none i j [] ne own = refl
own_none i j (e ∷ es) ne own =
    ap (λ (b : Bool). cond b (e ∷ events_of es j) (events_of es j)) (ne_eqb (seat_of e) j (λ s. ne (sym own.0 ∙ s)))
    ∙ own_none i j es ne own.1

pub private_of : (i : ℕ) (es : List Event) (e : Event) → ArePrivate i es → seat_of e ≡ i → AreOf i (es ++ e ∷ [])
private_of i [] e own last = (last, tt)
private_of i (x ∷ xs) e own last = (own.0.seat, private_of i xs e own.1 last)

-- nobody enters by them
pub private_enters : (i : ℕ) (es : List Event) (e : Event) → ArePrivate i es → is_enter e ≡ false
    → entered (es ++ e ∷ []) ≡ []
private_enters i [] e own last = ap (λ (b : Bool). cond b (seat_of e ∷ []) [] ++ []) last
private_enters i (x ∷ xs) e own last =
    ap (λ (b : Bool). cond b (seat_of x ∷ []) [] ++ entered (xs ++ e ∷ [])) own.0.enters
    ∙ private_enters i xs e own.1 last

tl : List Event → List Event
tl [] = []
tl (x ∷ xs) = xs

same_tail : (x : Event) (xs ys : List Event) → x ∷ xs ≡ x ∷ ys → xs ≡ ys
unfolding tl
same_tail x xs ys e = ap tl e

pub same_rest : (g a b : List Event) → g ++ a ≡ g ++ b → a ≡ b
same_rest [] a b e = e
same_rest (x ∷ g) a b e = same_rest g a b (same_tail x (g ++ a) (g ++ b) e)

-- the first seat after these is the next of them
pub next_in_order : (front rest : List ℕ) (i : ℕ) → get_elem? (front ++ rest) (length front) ≡ some i
    → (more : List ℕ) × (front ++ rest ≡ (front ++ i ∷ []) ++ more)
next_in_order [] [] i at = absurd cc
next_in_order [] (x ∷ xs) i at = (xs, ap (λ (n : ℕ). n ∷ xs) (some-injective x i at))
next_in_order (y ∷ ys) rest i at = let n = next_in_order ys rest i at in (n.0, ap (λ (l : List ℕ). y ∷ l) n.1)
