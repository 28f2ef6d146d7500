-- Reading a text line after line, as a loop does, whatever its lines hold.
use Rattle.std.proofs.Common.{◌≡◌, ◌==◌, ◌≢◌, ℕ, zero, suc, ◌-◌, ◌+◌, Bool, true, false, cond, List, [], ◌∷◌, ◌++◌}
use Rattle.std.proofs.Common.{length, Result, Ok, Err, refl, sym, ap, ◌∙◌, append_assoc, arith}
use Rattle.std.specs.List.{slice_split, onto_first}
use Rattle.monk_history.specs.declared.text.fault.ReadFault.{ReadFault}
use Rattle.monk_history.specs.Text.Faults.{end_fault, long_fault}
use Rattle.monk_history.specs.Text.Words.{◌>>=◌, Word, Taken}
use Rattle.monk_history.specs.Text.Lines.{LinesLeft, lines_of, item_line, header_line, items_at, items_left, lines_at, opened_at}

pub some_part : (p : ℕ → Bool) (xs : List ℕ)
    → (first : List ℕ) × (more : List (List ℕ)) × (slice_split p xs ≡ first ∷ more)
some_part p [] = ([], [], refl)
some_part p (x ∷ xs) = split_one (p x) x (some_part p xs)
  where
    split_one : (b : Bool) (x : ℕ) → (first : List ℕ) × (more : List (List ℕ)) × (slice_split p xs ≡ first ∷ more)
        → (first : List ℕ) × (more : List (List ℕ))
        × (cond b ([] ∷ slice_split p xs) (onto_first x (slice_split p xs)) ≡ first ∷ more)
    split_one true x h = ([], slice_split p xs, refl)
    split_one false x h = (x ∷ h.0, h.1, ap (onto_first x) h.2)

-- what was read before, and what is still read
abbrev pub with_front : {A : Type 0} → List A → Result (List A) ReadFault → Result (List A) ReadFault
with_front front read = read >>= λ es. Ok (front ++ es)

regroup : {A : Type 0} → (front : List A) (e : A) (read : Result (List A) ReadFault)
    → with_front front (read >>= λ es. Ok (e ∷ es)) ≡ with_front (front ++ e ∷ []) read
regroup {A = A} front e (Ok es) = ap (λ (x : List A). Ok x) (simp append_assoc)
regroup {A = A} front e (Err f) = refl

pub one_line : {A : Type 0} → (parse : List Word → Taken A) → (room n : ℕ) (l next : List ℕ) (more : List (List ℕ))
    → items_at parse (suc room) n
    (l ∷ next ∷ more) ≡ (item_line parse n l >>= λ e. items_at parse room (suc n) (next ∷ more) >>= λ es. Ok (e ∷ es))
unfolding items_at
one_line {A = A} parse room n l next more = refl

pub too_long : {A : Type 0} → (parse : List Word → Taken A) → (n : ℕ) (l next : List ℕ) (more : List (List ℕ))
    → items_at parse zero n (l ∷ next ∷ more) ≡ Err (long_fault n)
unfolding items_at
too_long {A = A} parse n l next more = refl

pub last_part : {A : Type 0} → (parse : List Word → Taken A) → (room n : ℕ) (rest : List ℕ)
    → items_at parse room n (rest ∷ []) ≡ cond (length rest == 0) (Ok []) (Err (end_fault n))
unfolding items_at
last_part {A = A} parse zero n rest = refl
last_part {A = A} parse (suc room) n rest = refl

-- ---- one more line, if these bytes are left of the lines

abbrev pub left_of : List ℕ → ℕ → ℕ → LinesLeft
left_of rest n room = record { lines = lines_of rest; number = n; room = room }

pub is_done : {A : Type 0} → (parse : List Word → Taken A) (l : LinesLeft) (rest : List ℕ) (n room : ℕ)
    → l ≡ left_of rest n room → lines_of rest ≡ rest ∷ [] → (length rest == 0) ≡ true
    → items_left parse l ≡ Ok []
is_done {A = A} parse l rest n room view parts empty = rw (view, parts) (last_part parse room n rest ∙ rw empty refl)

pub is_unfinished : {A : Type 0} → (parse : List Word → Taken A) (l : LinesLeft) (rest : List ℕ) (n room : ℕ)
    → l ≡ left_of rest n room → lines_of rest ≡ rest ∷ [] → (length rest == 0) ≡ false
    → items_left parse l ≡ Err (end_fault n)
is_unfinished {A = A} parse l rest n room view parts some =
    rw (view, parts) (last_part parse room n rest ∙ rw some refl)

pub is_long : {A : Type 0} → (parse : List Word → Taken A) (l : LinesLeft) (rest line after : List ℕ) (n room : ℕ)
    → l ≡ left_of rest n room → lines_of rest ≡ line ∷ lines_of after → room ≡ 0
    → items_left parse l ≡ Err (long_fault n)
is_long {A = A} parse l rest line after n room view parts none =
    let p = some_part (λ b. b == 10) after in
    rw (view, none, parts, p.2) (too_long parse n line p.0 p.1)

step : {A : Type 0} → (parse : List Word → Taken A) (rest line after : List ℕ) (n room : ℕ)
    → lines_of rest ≡ line ∷ lines_of after → room ≢ 0
    → items_at parse room n
    (lines_of rest) ≡ (item_line parse n line >>= λ e. items_at parse (room - 1) (n + 1) (lines_of after) >>= λ es.
    Ok (e ∷ es))
step {A = A} parse rest line after n room parts some =
    let p = some_part (λ b. b == 10) after in
    let more : room ≡ suc (room - 1) = omega arith in
    let next : n + 1 ≡ suc n = omega arith in
    rw (next, parts, p.2) (ap (λ k. items_at parse k n (line ∷ p.0 ∷ p.1)) more
    ∙ one_line parse (room - 1) n line p.0 p.1)

pub has_fault : {A : Type 0} → (parse : List Word → Taken A) (l : LinesLeft) (rest line after : List ℕ) (n room : ℕ)
    (f : ReadFault) → l ≡ left_of rest n room → lines_of rest ≡ line ∷ lines_of after → room ≢ 0
    → Err f ≡ item_line parse n line
    → items_left parse l ≡ Err f
has_fault {A = A} parse l rest line after n room f view parts some bad =
    rw view (step parse rest line after n room parts some ∙ rw (← bad) refl)

pub goes_on : {A : Type 0} → (parse : List Word → Taken A) (l : LinesLeft) (rest line after : List ℕ) (n room : ℕ)
    (e : A) → l ≡ left_of rest n room → lines_of rest ≡ line ∷ lines_of after → room ≢ 0 → Ok e ≡ item_line parse n line
    → items_left parse l ≡ (items_left parse (left_of after (n + 1) (room - 1)) >>= λ es. Ok (e ∷ es))
goes_on {A = A} parse l rest line after n room e view parts some good =
    rw view (step parse rest line after n room parts some ∙ rw (← good) refl)

-- ---- the rounds and the ends of a loop that keeps each item

pub one_more : {A : Type 0} → (front : List A) (e : A) (old new total : Result (List A) ReadFault)
    → old ≡ (new >>= λ es. Ok (e ∷ es)) → with_front front old ≡ total → with_front (front ++ e ∷ []) new ≡ total
one_more {A = A} front e old new total more so_far = sym (regroup front e new)
    ∙ ap (with_front front) (sym more) ∙ so_far

-- ---- the same for a loop that keeps none

-- what is still read, after what was read before
pub record IsBehind {A : Type 0} (left all : Result (List A) ReadFault) : Type 0 where
  pub front : List A
  pub same : with_front front left ≡ all

pub behind_one : {A : Type 0} → (e : A) (old new all : Result (List A) ReadFault) → old ≡ (new >>= λ es. Ok (e ∷ es))
    → IsBehind old all → IsBehind new all
behind_one {A = A} e old new all more h =
    record { front = h.front ++ e ∷ []; same = one_more h.front e old new all more h.same }

-- ---- the first line, and the lines after it

opened_some : {H : Type 0} → (head : List Word → Taken H) (limit : ℕ) (bytes first rest : List ℕ)
    → lines_of bytes ≡ first ∷ lines_of rest
    → opened_at head limit (lines_of bytes) ≡ (header_line head first >>= λ h. Ok (h, left_of rest 2 limit))
unfolding opened_at
opened_some {H = H} head limit bytes first rest parts =
    let p = some_part (λ b. b == 10) rest in
    rw (parts, p.2) refl

pub no_header : {H : Type 0} → (head : List Word → Taken H) (limit : ℕ) (bytes first rest : List ℕ) (f : ReadFault)
    → lines_of bytes ≡ first ∷ lines_of rest → Err f ≡ header_line head first
    → Err f ≡ opened_at head limit (lines_of bytes)
no_header {H = H} head limit bytes first rest f parts bad =
    sym (opened_some head limit bytes first rest parts ∙ rw (← bad) refl)

pub some_header : {H : Type 0} → (head : List Word → Taken H) (limit : ℕ) (bytes first rest : List ℕ) (h : H)
    → lines_of bytes ≡ first ∷ lines_of rest → Ok h ≡ header_line head first
    → Ok (h, left_of rest 2 limit) ≡ opened_at head limit (lines_of bytes)
some_header {H = H} head limit bytes first rest h parts good =
    sym (opened_some head limit bytes first rest parts ∙ rw (← good) refl)

-- the items after a header that was read
abbrev pub behind : {H A : Type 0} → (H → List Word → Taken A) → Result (H × LinesLeft) ReadFault
    → Result (H × List A) ReadFault
behind parse opened = opened >>= λ x. items_left (parse x.0) x.1 >>= λ es. Ok (x.0, es)

headed : {H A : Type 0} → (parse : H → List Word → Taken A) (r : Result H ReadFault) (lines : List (List ℕ)) (limit : ℕ)
    → (r >>= λ h. items_at (parse h) limit 2 lines >>= λ es. Ok (h, es)) ≡ behind parse
    (r >>= λ h. Ok (h, record { lines = lines; number = 2; room = limit }))
headed {H = H} {A = A} parse (Ok h) lines limit = refl
headed {H = H} {A = A} parse (Err f) lines limit = refl

pub lines_behind : {H A : Type 0} → (head : List Word → Taken H) (parse : H → List Word → Taken A) (limit : ℕ)
    (lines : List (List ℕ)) → lines_at head parse limit lines ≡ behind parse (opened_at head limit lines)
unfolding lines_at opened_at
lines_behind {H = H} {A = A} head parse limit [] = refl
lines_behind {H = H} {A = A} head parse limit (rest ∷ []) = refl
lines_behind {H = H} {A = A} head parse limit (l ∷ next ∷ more) = headed parse (header_line head l) (next ∷ more) limit

pub not_opened : {H A : Type 0} → (head : List Word → Taken H) (parse : H → List Word → Taken A) (limit : ℕ)
    (lines : List (List ℕ)) (f : ReadFault) → Err f ≡ opened_at head limit lines
    → lines_at head parse limit lines ≡ Err f
not_opened {H = H} {A = A} head parse limit lines f bad = lines_behind head parse limit lines
    ∙ ap (behind parse) (sym bad)

pub no_items : {H A : Type 0} → (head : List Word → Taken H) (parse : H → List Word → Taken A) (limit : ℕ)
    (lines : List (List ℕ)) (h : H) (left : LinesLeft) (f : ReadFault) → Ok (h, left) ≡ opened_at head limit lines
    → items_left (parse h) left ≡ Err f
    → lines_at head parse limit lines ≡ Err f
no_items {H = H} {A = A} head parse limit lines h left f good bad = lines_behind head parse limit lines
    ∙ (ap (behind parse) (sym good) ∙ rw bad refl)

pub both_parts : {H A : Type 0} → (head : List Word → Taken H) (parse : H → List Word → Taken A) (limit : ℕ)
    (lines : List (List ℕ)) (h : H) (left : LinesLeft) (es : List A) → Ok (h, left) ≡ opened_at head limit lines
    → items_left (parse h) left ≡ Ok es
    → lines_at head parse limit lines ≡ Ok (h, es)
both_parts {H = H} {A = A} head parse limit lines h left es good fits = lines_behind head parse limit lines
    ∙ (ap (behind parse) (sym good) ∙ rw fits refl)
