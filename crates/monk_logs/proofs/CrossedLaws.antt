-- How the seats that a signal crossed are found
use Rattle.std.proofs.Common.{◌≡◌, ℕ, zero, suc, ◌+◌, ◌-◌, ◌<◌, ◌≤◌, ◌∙◌, Bool, true, false, cond, ⊎_elim}
use Rattle.std.proofs.Common.{List, [], ◌∷◌, ◌++◌, length, get_or, set, take, replicate, reverse, Option, Some, None}
use Rattle.std.specs.Prelude.{IfSome, if◌then◌else◌, slice_range}
use Rattle.std.proofs.lemmas.Bool.{cases_eq, eq-eqb, ne_eqb, Decides.nat_tests}
use Rattle.std.proofs.lemmas.List.{length-reverse, reverse-append, take_more}
use Rattle.std.proofs.Common.{refl, sym, ap, arith, subst, length-take, take_all, get_or-set_same, get_or-set_other}
use Rattle.std.specs.Option.{option_or}
use Rattle.monk_logs.proofs.LastLineLaws.{last_more}
use Rattle.monk_logs.specs.{Log.line_seat, declared.crossed.Crossed.Crossed, declared.subject.Subject.TheVariants.Seat}
use Rattle.monk_logs.specs.{declared.text.line.LogLine.LogLine, declared.text.line.LogLine.TheVariants.Wait}
use Rattle.monk_logs.specs.LastLine.{has, last_behind, last_line}
use Rattle.monk_logs.specs.Crossed.{begins, crossed_below, crosses, crossing, crossing_at, crossing_in, with_seat}

-- the lines before a line, and that line
before_more : (log : List LogLine) (i : ℕ) (l : LogLine) → i < length log
    → reverse (take (i + 1) log) ≡ get_or log i l ∷ reverse (take i log)
before_more log i l lt = ap reverse (take_more log i l lt) ∙ reverse-append (take i log) (get_or log i l ∷ [])

-- ---- the number of each seat's last line

-- no number
abbrev none : Option ℕ
none = None

pub nothing_last : (n j : ℕ) → get_or (replicate n none) j none ≡ last_line (Seat j) []
unfolding last_behind
nothing_last zero j = refl
nothing_last (suc n) zero = refl
nothing_last (suc n) (suc j) = nothing_last n j

pub numbers_more : (table : List (Option ℕ)) (log : List LogLine) (i at number : ℕ) (l : LogLine)
    → i < length log → at ≡ line_seat (get_or log i l) → number ≡ i + 1 → at < length table
    → ((j : ℕ) → get_or table j None ≡ last_line (Seat j) (take i log))
    → (j : ℕ) → get_or (set table at (Some number)) j None ≡ last_line (Seat j) (take (i + 1) log)
numbers_more table log i at number l lt is_at is small has_last j =
    ⊎_elim
    (λ e. ap (λ k. get_or (set table at (Some number)) k none) (sym (is_at ∙ e))
    ∙ get_or-set_same table at (Some number) none small
    ∙ ap Some is
    ∙ last_more (Seat j) log i l (last_line (Seat j) (take i log)) true lt
    (eq-eqb (line_seat (get_or log i l)) j e) refl)
    (λ ne. get_or-set_other table at j (Some number) none (λ e. ne (sym is_at ∙ sym e))
    ∙ last_more (Seat j) log i l (get_or table j None) false lt
    (ne_eqb (line_seat (get_or log i l)) j ne) (has_last j))
    (cases_eq (line_seat (get_or log i l)) j)

-- ---- the signal that crossed one seat

-- the crossing that the number of a seat's last line gives
abbrev pub crossing_by : List LogLine → LogLine → Option ℕ → Option ℕ
crossing_by log d None = None
crossing_by log d (Some n) = crossing_at (get_or log (n - 1) d) (reverse (take (n - 1) log))

by_more : (log : List LogLine) (d : LogLine) (i : ℕ)
    → crossing_by log d (Some (i + 1)) ≡ crossing_at (get_or log i d) (reverse (take i log))
by_more log d i = grind (arith, nat_tests)

crossing_take : (s : ℕ) (log : List LogLine) (d : LogLine) (i : ℕ) → i ≤ length log
    → crossing s (reverse (take i log)) ≡ crossing_by log d (last_line (Seat s) (take i log))
unfolding crossing last_behind
crossing_take s log d zero le = refl
crossing_take s log d (suc i) le =
    let lt : i < length log = omega arith in
    let on : i + 1 ≡ suc i = omega arith in
    let l = get_or log i d in
    let before = last_line (Seat s) (take i log) in
    subst (λ n. crossing s (reverse (take n log)) ≡ crossing_by log d (last_line (Seat s) (take n log))) on
    (ap (crossing s) (before_more log i d lt)
    ∙ ⊎_elim
    (λ e. ap (λ b. cond b (crossing_at l (reverse (take i log))) (crossing s (reverse (take i log))))
    (eq-eqb (line_seat l) s e)
    ∙ sym (by_more log d i)
    ∙ ap (crossing_by log d) (last_more (Seat s) log i d before true lt (eq-eqb (line_seat l) s e) refl))
    (λ ne. ap (λ b. cond b (crossing_at l (reverse (take i log))) (crossing s (reverse (take i log))))
    (ne_eqb (line_seat l) s ne)
    ∙ crossing_take s log d i (omega arith)
    ∙ ap (crossing_by log d) (last_more (Seat s) log i d before false lt (ne_eqb (line_seat l) s ne) refl))
    (cases_eq (line_seat l) s))

pub crossing_told : (s : ℕ) (log : List LogLine) (d : LogLine) (number : Option ℕ)
    → number ≡ last_line (Seat s) log → crossing_by log d number ≡ crossing s (reverse log)
crossing_told s log d number is =
    ap (crossing_by log d) (is ∙ ap (last_line (Seat s)) (sym (take_all (length log) log (omega arith))))
    ∙ sym (crossing_take s log d (length log) (omega arith))
    ∙ ap (λ (xs : List LogLine). crossing s (reverse xs)) (take_all (length log) log (omega arith))

-- ---- the number is that of a line

or_within : (n k : ℕ) (b : Bool) (o : Option ℕ) → IfSome o (λ m. (suc n < m) × (m ≤ suc n + k))
    → IfSome (option_or o (cond b (Some (suc n)) None)) (λ m. (n < m) × (m ≤ n + suc k))
or_within n k b o w = grind (arith, nat_tests)

pub last_within : (p : LogLine → Bool) (n : ℕ) (log : List LogLine)
    → IfSome (last_behind p n log) (λ m. (n < m) × (m ≤ n + length log))
unfolding last_behind
last_within p n [] = tt
last_within p n (l ∷ log) = or_within n (length log) (p l) (last_behind p (suc n) log) (last_within p (suc n) log)

-- ---- one line more, from the last to the first

pub crossing_more : (s c : ℕ) (log : List LogLine) (n at : ℕ) (l : LogLine) → at ≡ n + 1 → n < length log
    → crossing_in s c (reverse (take at log))
    ≡ (if crosses s c (get_or log n l) then Some at
    else if begins s (get_or log n l) then None else crossing_in s c (reverse (take n log)))
unfolding crossing_in
crossing_more s c log n at l is lt = grind (arith, nat_tests, before_more, length-reverse, length-take)

-- the last line is a signal to the condition by another seat
pub found_crossing : (s c : ℕ) (log : List LogLine) (n at : ℕ) (l : LogLine) (whole : Option ℕ) → at ≡ n + 1
    → n < length log → crosses s c (get_or log n l) ≡ true
    → crossing_in s c (reverse (take at log)) ≡ whole → Some at ≡ whole
found_crossing s c log n at l whole is lt crossed same =
    sym (ap (λ b. if b then Some at else if begins s (get_or log n l) then None
    else crossing_in s c (reverse (take n log))) crossed)
    ∙ sym (crossing_more s c log n at l is lt) ∙ same

-- the seat begins with the last line
pub found_beginning : (s c : ℕ) (log : List LogLine) (n at : ℕ) (l : LogLine) (whole : Option ℕ) → at ≡ n + 1
    → n < length log → crosses s c (get_or log n l) ≡ false → begins s (get_or log n l) ≡ true
    → crossing_in s c (reverse (take at log)) ≡ whole → None ≡ whole
found_beginning s c log n at l whole is lt crossed begun same =
    sym (ap (λ b. if b then none else crossing_in s c (reverse (take n log))) begun)
    ∙ sym (ap (λ b. if b then Some at else if begins s (get_or log n l) then None
    else crossing_in s c (reverse (take n log))) crossed)
    ∙ sym (crossing_more s c log n at l is lt) ∙ same

-- the last line is neither
pub crossing_before : (s c : ℕ) (log : List LogLine) (n at : ℕ) (l : LogLine) (whole : Option ℕ) → at ≡ n + 1
    → n < length log → crosses s c (get_or log n l) ≡ false → begins s (get_or log n l) ≡ false
    → crossing_in s c (reverse (take at log)) ≡ whole → crossing_in s c (reverse (take n log)) ≡ whole
crossing_before s c log n at l whole is lt crossed begun same =
    sym (ap (λ b. if b then none else crossing_in s c (reverse (take n log))) begun)
    ∙ sym (ap (λ b. if b then Some at else if begins s (get_or log n l) then None
    else crossing_in s c (reverse (take n log))) crossed)
    ∙ sym (crossing_more s c log n at l is lt) ∙ same

pub crossing_none : (s c : ℕ) (log : List LogLine) (at : ℕ) (whole : Option ℕ) → at ≡ 0
    → crossing_in s c (reverse (take at log)) ≡ whole → None ≡ whole
unfolding crossing_in
crossing_none s c log at whole is same = cc

-- ---- the line that is found

-- the signal that crossed the last line, if these are the lines, the last first
abbrev head_crossing : List LogLine → Option ℕ
head_crossing [] = None
head_crossing (l ∷ before) = crossing_at l before

pub told_within : (s : ℕ) (log : List LogLine) (n : ℕ) → Some n ≡ last_line (Seat s) log
    → (0 < n) × (n ≤ 0 + length log)
told_within s log n is =
    subst (λ o. IfSome o (λ m. (0 < m) × (m ≤ 0 + length log))) (sym is) (last_within (has (Seat s)) 0 log)

pub crossing_front : (s : ℕ) (log front before : List LogLine) (line : LogLine) (n : ℕ)
    → Some n ≡ last_line (Seat s) log → front ≡ slice_range log 0 n → front ≡ before ++ line ∷ []
    → crossing_at line (reverse before) ≡ crossing s (reverse log)
crossing_front s log front before line n is taken parts =
    let within = told_within s log n is in
    let low = within.0 in
    let high = within.1 in
    let lt : n - 1 < length log = omega arith in
    ap head_crossing (sym (reverse-append before (line ∷ [])))
    ∙ ap (λ (xs : List LogLine). head_crossing (reverse xs)) (sym parts ∙ taken)
    ∙ ap (λ k. head_crossing (reverse (take k log))) (let same : n - 0 ≡ n - 1 + 1 = omega arith in same)
    ∙ ap head_crossing (before_more log (n - 1) line lt)
    ∙ crossing_told s log line (Some n) is

-- no signal crossed a line that isn't a wait
pub no_crossing : (l : LogLine) (before : List LogLine) → ((s c : ℕ) → l ≡ Wait s c → ⊥) → None ≡ crossing_at l before
no_crossing l before other = grind (arith, nat_tests)

-- ---- one seat more

pub nobody_crossed : (sleeps : ℕ → Bool) (before : List LogLine) → None ≡ crossed_below sleeps before 0
unfolding crossed_below
nobody_crossed sleeps before = refl

pub seat_more : (sleeps : ℕ → Bool) (before : List LogLine) (s : ℕ) (signal : Option ℕ) (found : Option Crossed)
    → signal ≡ (if sleeps s then crossing s before else None) → found ≡ crossed_below sleeps before s
    → with_seat signal found ≡ crossed_below sleeps before (s + 1)
unfolding crossed_below
seat_more sleeps before s signal found is so_far = grind (arith, nat_tests)
