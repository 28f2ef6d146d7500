-- How one more event changes what is counted seat by seat, and how long lists of few seats are
use Rattle.std.proofs.Common.{◌≡◌, ℕ, ◌+◌, ◌*◌, ◌<◌, ◌≤◌, zero, suc, Bool, true, false, cond, ◌==◌, List, [], ◌∷◌}
use Rattle.std.proofs.Common.{◌++◌, length, refl, sym, ap, ◌∙◌, arith, map, ⊎_elim, eq-eqb, length-append}
use Rattle.std.{specs.Prelude.filter, proofs.lemmas.Bool.cases_lt, proofs.lemmas.List.Sums.sum_by-append}
use Rattle.std.{proofs.lemmas.List.Sums.count_by-le-length, proofs.Math.Nat.mul-le-mul_right}
use Rattle.monk_history.specs.{Limits.most_seats, Limits.most_budget, Limits.most_lines, declared.event.Event.Event}
use Rattle.monk_history.specs.Meaning.{Events.seat_of, Standing.times}
use Rattle.monk_history.specs.Meaning.Counts.{events_of, is_enter, enters_of, grants, granted_of}
use Rattle.std.proofs.lemmas.Bool.Decides.{nat_tests}

abbrev pub total : ℕ → (ℕ → ℕ) → ℕ
total zero f = 0
total (suc n) f = f n + total n f

pub total_le : (m b : ℕ) (f : ℕ → ℕ) → ((j : ℕ) → f j ≤ b) → total m f ≤ m * b
total_le zero b f h = omega arith
total_le (suc m) b f h = omega (arith, total_le m b f h, h m)

-- what is left of the bound if one seat has less
pub total_rest : (m b i : ℕ) (f : ℕ → ℕ) → i < m → ((j : ℕ) → f j ≤ b) → total m f + b ≤ m * b + f i
total_rest zero b i f k h = absurd (omega arith)
total_rest (suc m) b i f k h =
    ⊎_elim (λ l. omega (arith, total_rest m b i f l h, h m))
    (λ l. let e : i ≡ m = omega arith in omega (arith, total_le m b f h, ap f e)) (cases_lt i m)

total_more : (n x : ℕ) (f : ℕ → ℕ) → n ≤ x → total n (λ s. cond (x == s) 1 0 + f s) ≡ total n f
total_more zero x f l = refl
total_more (suc n) x f l = omega (arith, total_more n x f (omega arith), other (x == n) (λ e. grind (arith, e, l)))
  where
    other : (b : Bool) → (b ≡ true → ⊥) → ◌≡◌ {A = ℕ} (cond b 1 0) 0
    other true h = absurd (h refl)
    other false h = refl

total_one : (n x : ℕ) (f : ℕ → ℕ) → x < n → total n (λ s. cond (x == s) 1 0 + f s) ≡ 1 + total n f
total_one zero x f l = absurd (omega arith)
total_one (suc n) x f l =
    ⊎_elim
    (λ k. omega (arith, total_one n x f k, other (x == n) (λ e. grind (arith, e, k))))
    (λ k. let e : x ≡ n = omega arith in let b : ◌≡◌ {A = ℕ} (cond (x == n) 1 0) 1 = ap (λ z. cond z 1 0) (eq-eqb x n e)
    in omega (arith, total_more n x f k, b))
    (cases_lt x n)
  where
    other : (b : Bool) → (b ≡ true → ⊥) → ◌≡◌ {A = ℕ} (cond b 1 0) 0
    other true h = absurd (h refl)
    other false h = refl

times_self : (x : ℕ) (xs : List ℕ) → 1 ≤ times x (x ∷ xs)
times_self x xs = let b : ◌≡◌ {A = ℕ} (cond (x == x) 1 0) 1 = ap (λ z. cond z 1 0) (eq-eqb x x refl) in omega (arith, b)

total_none : (n : ℕ) → total n (λ s. 0) ≡ 0
total_none zero = refl
total_none (suc n) = omega (arith, total_none n)

-- the length of a list of seats below n is the sum of how often each seat is in it
pub length_total : (n : ℕ) (xs : List ℕ) → ((s : ℕ) → n ≤ s → times s xs ≡ 0) → length xs ≡ total n (λ s. times s xs)
length_total n [] h = sym (total_none n)
length_total n (x ∷ xs) h =
    let rest = length_total n xs (λ s l. omega (arith, h s l)) in
    ⊎_elim
    (λ l. omega (arith, rest, total_one n x (λ s. times s xs) l))
    (λ l. absurd (omega (arith, h x l, times_self x xs)))
    (cases_lt x n)

filter_one : (b : Bool) (e : Event) (es ds : List Event) → cond b (e ∷ (es ++ ds)) (es ++ ds) ≡ cond b (e ∷ es) es ++ ds
filter_one b e es ds = grind (arith, nat_tests)

filter-push : (p : Event → Bool) (h : List Event) (e : Event)
    → filter p (h ++ e ∷ []) ≡ filter p h ++ cond (p e) (e ∷ []) []
filter-push p [] e = refl
filter-push p (x ∷ xs) e = grind (arith, nat_tests, filter_one, filter-push p xs e)

pub events_of-push : (h : List Event) (e : Event) (s : ℕ)
    → events_of (h ++ e ∷ []) s ≡ events_of h s ++ cond (seat_of e == s) (e ∷ []) []
unfolding events_of
events_of-push h e s = filter-push (λ x. seat_of x == s) h e

one_or_none : (b : Bool) (e : Event) → length (cond b (e ∷ []) []) ≡ cond b 1 0
one_or_none b e = grind (arith, nat_tests)

pub length-events_of-push : (h : List Event) (e : Event) (s : ℕ)
    → length (events_of (h ++ e ∷ []) s) ≡ length (events_of h s) + cond (seat_of e == s) 1 0
length-events_of-push h e s = grind (arith, nat_tests, events_of-push, length-append, one_or_none)

pub enters_of-push : (h : List Event) (e : Event) → enters_of (h ++ e ∷ []) ≡ enters_of h + cond (is_enter e) 1 0
unfolding enters_of
enters_of-push h e = sum_by-append (λ x. cond (is_enter x) 1 0) h (e ∷ []) ∙ omega arith

pub granted_of-push : (h : List Event) (e : Event) (s : ℕ)
    → granted_of (h ++ e ∷ []) s ≡ granted_of h s + cond (grants s e) 1 0
unfolding granted_of
granted_of-push h e s = sum_by-append (λ x. cond (grants s x) 1 0) h (e ∷ []) ∙ omega arith

one_more : (b : Bool) (e : Event) (es : List Event) → length (cond b (e ∷ es) es) ≡ cond b 1 0 + length es
one_more b e es = grind (arith, nat_tests)

-- a seat has as many events as it comes up among the seats of all events
pub length-events_of : (h : List Event) (s : ℕ) → length (events_of h s) ≡ times s (map seat_of h)
unfolding events_of
length-events_of [] s = refl
length-events_of (e ∷ es) s = omega (arith, one_more, length-events_of es s)

length_map : (h : List Event) → length (map seat_of h) ≡ length h
length_map [] = refl
length_map (e ∷ es) = ap suc (length_map es)

-- if each seat has at most its budget and one has less, there is room for one more event
pub room_left : (seats budget i : ℕ) (h : List Event) → i < seats → ((s : ℕ) → seats ≤ s → length (events_of h s) ≡ 0)
    → ((s : ℕ) → length (events_of h s) ≤ budget) → length (events_of h i) < budget → length h < seats * budget
room_left seats budget i h l none within less =
    let long = length_total seats (map seat_of h) (λ s k. sym (length-events_of h s) ∙ none s k) in
    let rest =
    total_rest seats budget i (λ s. times s (map seat_of h)) l
    (λ s. omega (arith, within s, length-events_of h s)) in
    omega (arith, long, rest, length_map h, length-events_of h i)

-- if each seat has at most its budget, the history is no longer than the budgets of all
pub history_few : (seats budget : ℕ) (h : List Event) → ((s : ℕ) → seats ≤ s → length (events_of h s) ≡ 0)
    → ((s : ℕ) → length (events_of h s) ≤ budget) → length h ≤ seats * budget
history_few seats budget h none within =
    let long = length_total seats (map seat_of h) (λ s k. sym (length-events_of h s) ∙ none s k) in
    let most =
    total_le seats budget (λ s. times s (map seat_of h)) (λ s. omega (arith, within s, length-events_of h s)) in
    omega (arith, long, most, length_map h)

pub enters_few : (h : List Event) → enters_of h ≤ length h
unfolding enters_of
enters_few h = count_by-le-length is_enter h

pub granted_few : (h : List Event) (s : ℕ) → granted_of h s ≤ length h
unfolding granted_of
granted_few h s = count_by-le-length (grants s) h

pub enters_none : enters_of [] ≡ 0
unfolding enters_of
enters_none = refl

pub granted_none : (s : ℕ) → granted_of [] s ≡ 0
unfolding granted_of
granted_none s = refl

-- no more events than the budgets allow
pub few_events : (seats budget n : ℕ) → seats ≤ most_seats → budget ≤ most_budget → n < seats * budget → n < most_lines
few_events seats budget n a b l = let c = mul-le-mul_right budget a in omega (arith, b, l, c)
