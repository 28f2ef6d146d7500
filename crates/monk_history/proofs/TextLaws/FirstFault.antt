-- A fault names the first line with which no text begins.
use Rattle.std.proofs.Common.{◌≡◌, ◌==◌, ℕ, zero, suc, ◌+◌, ◌-◌, ◌<◌, Bool, true, false, cond, List, [], ◌∷◌, ◌++◌}
use Rattle.std.proofs.Common.{length, take, Result, Ok, Err, refl, sym, ap, subst, ◌∙◌, append_assoc, arith}
use Rattle.std.specs.List.{onto_first, flat_map, AllByRecursion}
use Rattle.monk_history.specs.declared.text.fault.Flaw.TheVariants as flaw
use Rattle.monk_history.specs.Text.Words.{◌>>=◌, Word, Taken, words_of}
use Rattle.monk_history.proofs.TextLaws.{HistoryText.text_again, HistoryText.text_read, LineCuts.cut_at}
use Rattle.monk_history.proofs.TextLaws.LineSteps.{last_part, one_line, some_part, too_long}
use Rattle.monk_history.specs.Text.{heading, text, Laws.BeginsText, Laws.IsFirstFaulty, Laws.first_lines}
use Rattle.monk_history.specs.Text.Lines.{lines_of, is_unended, items_at, item_line, after_header, header_line}
use Rattle.monk_history.specs.Text.Lines.{lines_at, with_line_number}
use Rattle.monk_history.specs.Text.Faults.{end_fault, header_fault, long_fault, number_fault, word_fault}
use Rattle.monk_history.specs.Text.Reading.{event_under, header_at, text_at}
use Rattle.monk_history.specs.declared.text.fault.ReadFault.{ReadFault}
use Rattle.monk_kinds.specs.declared.name.KindName.TheVariants.{Pb}
use Rattle.monk_object.specs.declared.name.ObjectName.TheVariants.{Buffer}
use Rattle.std.proofs.lemmas.Bool.Decides.{nat_tests}

-- ---- the lines of the first lines of some bytes

abbrev Unended : List (List ℕ) → Type 0
Unended ls = AllByRecursion (λ l. is_unended l ≡ true) ls

onto_unended : (x : ℕ) (ls : List (List ℕ)) → (x == 10) ≡ false → Unended ls → Unended (onto_first x ls)
onto_unended x [] other all = (rw other refl, tt)
onto_unended x (l ∷ ls) other all = (rw (other, all.0) refl, all.1)

cut_unended : (x : ℕ) (ls : List (List ℕ)) (b : Bool) → (x == 10) ≡ b → Unended ls
    → Unended (cond b ([] ∷ ls) (onto_first x ls))
cut_unended x ls true at all = (refl, all)
cut_unended x ls false other all = onto_unended x ls other all

lines_unended : (bytes : List ℕ) → Unended (lines_of bytes)
lines_unended [] = (refl, tt)
lines_unended (x ∷ xs) = cut_unended x (lines_of xs) (x == 10) refl (lines_unended xs)

take_unended : (n : ℕ) (ls : List (List ℕ)) → Unended ls → Unended (take n ls)
take_unended zero ls all = tt
take_unended (suc n) [] all = tt
take_unended (suc n) (l ∷ ls) all = (all.0, take_unended n ls all.1)

abbrev ended : List ℕ → List ℕ
ended l = l ++ 10 ∷ []

lines_behind : (ls : List (List ℕ)) (rest : List ℕ) → Unended ls
    → lines_of (flat_map ended ls ++ rest) ≡ ls ++ lines_of rest
lines_behind [] rest all = refl
lines_behind (l ∷ ls) rest all = grind (arith, nat_tests, append_assoc, cut_at, lines_behind ls rest all.1)

pub lines_of_first : (n : ℕ) (bytes rest : List ℕ)
    → lines_of (first_lines n bytes ++ rest) ≡ take n (lines_of bytes) ++ lines_of rest
lines_of_first n bytes rest = grind (arith, nat_tests, lines_behind, take_unended, lines_unended)

-- ---- lines up to a fault

-- the fault is that of line n + `behind`, if the first of these lines has number n. If that line is finished, the
-- fault is the same whatever follows it
record Stops {B : Type 0} (read : List (List ℕ) → Result B ReadFault) (n : ℕ) (ls : List (List ℕ))
    (f : ReadFault) : Type 0 where
  pub behind : ℕ
  pub at : f.line ≡ n + behind
  pub within : behind < length ls
  pub again : suc behind < length ls → (y : List ℕ) (ys : List (List ℕ)) → read (take (suc behind) ls ++ y ∷ ys) ≡ Err f

-- all is read up to there
abbrev IsReadBefore : {B : Type 0} → (List (List ℕ) → Result B ReadFault) → List (List ℕ) → ℕ → Type 0
IsReadBefore {B = B} read ls i = (x : B) × (read (take i ls ++ [] ∷ []) ≡ Ok x)

-- a reading that failed with this fault, and one that found nothing
abbrev failed : {B : Type 0} → ReadFault → Result B ReadFault
failed f = Err f

abbrev nothing : {A : Type 0} → Result (List A) ReadFault
nothing = Ok []

same_fault : {B : Type 0} (f g : ReadFault) → failed {B = B} f ≡ failed g → f ≡ g
same_fault f g same = cc

same_line : {B : Type 0} (f g : ReadFault) → failed {B = B} f ≡ failed g → f.line ≡ g.line
same_line {B = B} f g same = ap (λ (x : ReadFault). x.line) (same_fault {B = B} f g same)

some_behind : (xs : List (List ℕ)) (y : List ℕ) (ys : List (List ℕ)) → 0 < length (xs ++ y ∷ ys)
some_behind [] y ys = omega arith
some_behind (x ∷ xs) y ys = omega arith

item_fault_line : {A : Type 0} (n : ℕ) (t : Taken A) (g : ReadFault) → with_line_number n t ≡ Err g → g.line ≡ n
item_fault_line n (Ok x) g e = absurd cc
item_fault_line {A = A} n (Err flaw.Word) g e = sym (same_line {B = A} (word_fault n) g e)
item_fault_line {A = A} n (Err flaw.Number) g e = sym (same_line {B = A} (number_fault n) g e)

-- ---- items

one_more_line : {A : Type 0} (parse : List Word → Taken A) (room n : ℕ) (l : List ℕ) (zs : List (List ℕ))
    → 0 < length zs
    → items_at parse (suc room) n (l ∷ zs)
    ≡ (item_line parse n l >>= λ e. items_at parse room (suc n) zs >>= λ es. Ok (e ∷ es))
one_more_line parse room n l [] some = absurd (omega arith)
one_more_line parse room n l (z ∷ zs) some = one_line parse room n l z zs

abbrev ItemsStop : {A : Type 0} → (List Word → Taken A) → ℕ → ℕ → List (List ℕ) → ReadFault → Type 0
ItemsStop parse room n ls f =
    (s : Stops (items_at parse room n) n ls f) × IsReadBefore (items_at parse room n) ls s.behind

none_left : {A : Type 0} (parse : List Word → Taken A) (room n : ℕ) → items_at parse room n [] ≡ Ok []
unfolding items_at
none_left parse zero n = refl
none_left parse (suc room) n = refl

last_fault : {A : Type 0} (b : Bool) (n : ℕ) (f : ReadFault)
    → cond b (nothing {A = A}) (Err (end_fault n)) ≡ Err f → f.line ≡ n
last_fault true n f e = absurd cc
last_fault {A = A} false n f e = sym (same_line {B = List A} (end_fault n) f e)

-- the first line has the fault
stops_here : {A : Type 0} (parse : List Word → Taken A) (room n : ℕ) (l : List ℕ) (ls : List (List ℕ))
    (f : ReadFault) → f.line ≡ n
    → (0 < length ls → (y : List ℕ) (ys : List (List ℕ)) → items_at parse room n (l ∷ y ∷ ys) ≡ Err f)
    → ItemsStop parse room n (l ∷ ls) f
stops_here parse room n l ls f at again = (
  record {
    behind = 0;
    at = at ∙ (let same : n ≡ n + 0 = omega arith in same);
    within = omega arith;
    again = λ more y ys. again (omega (arith, more)) y ys;
  },
  ([], last_part parse room n []),
)

-- a line after the first one has it
stops_later : {A : Type 0} (parse : List Word → Taken A) (room n : ℕ) (l : List ℕ) (ls : List (List ℕ))
    (f : ReadFault) (x : A)
    → item_line parse n l ≡ Ok x → ItemsStop parse room (suc n) ls f → ItemsStop parse (suc room) n (l ∷ ls) f
stops_later {A = A} parse room n l ls f x read (s, before) = (
  record {
    behind = suc s.behind;
    at = s.at ∙ (let same : suc n + s.behind ≡ n + suc s.behind = omega arith in same);
    within = omega (arith, s.within);
    again = λ more y ys.
        let zs = take (suc s.behind) ls ++ y ∷ ys in
        one_more_line parse room n l zs (some_behind (take (suc s.behind) ls) y ys)
        ∙ (ap (λ (r : Result A ReadFault). r >>= λ e. items_at parse room (suc n) zs >>= λ es. Ok (e ∷ es)) read
        ∙ ap (λ (r : Result (List A) ReadFault). r >>= λ es. Ok (x ∷ es)) (s.again (omega (arith, more)) y ys));
  },
  (
    x ∷ before.0,
    let zs = take s.behind ls ++ [] ∷ [] in
        one_more_line parse room n l zs (some_behind (take s.behind ls) [] [])
        ∙ (ap (λ (r : Result A ReadFault). r >>= λ e. items_at parse room (suc n) zs >>= λ es. Ok (e ∷ es)) read
        ∙ ap (λ (r : Result (List A) ReadFault). r >>= λ es. Ok (x ∷ es)) before.1),
  ),
)

-- if the first line is read, what stops the lines after it stops all
stops_by_rest : {A : Type 0} (parse : List Word → Taken A) (room n : ℕ) (l : List ℕ) (ls : List (List ℕ))
    (f : ReadFault) (x : A)
    (r : Result (List A) ReadFault) → item_line parse n l ≡ Ok x → items_at parse room (suc n) ls ≡ r
    → (r >>= λ es. Ok (x ∷ es)) ≡ Err f
    → ((g : ReadFault) → items_at parse room (suc n) ls ≡ Err g → ItemsStop parse room (suc n) ls g)
    → ItemsStop parse (suc room) n (l ∷ ls) f
stops_by_rest parse room n l ls f x (Ok es) read is all deeper = absurd cc
stops_by_rest {A = A} parse room n l ls f x (Err g) read is all deeper =
    let same : g ≡ f = same_fault {B = List A} g f all in
    stops_later parse room n l ls f x read (deeper f (is ∙ ap (λ (y : ReadFault). Err y) same))

stops_by_line : {A : Type 0} (parse : List Word → Taken A) (room n : ℕ) (l : List ℕ) (ls : List (List ℕ))
    (f : ReadFault)
    (r : Result A ReadFault) → item_line parse n l ≡ r → 0 < length ls
    → (r >>= λ x. items_at parse room (suc n) ls >>= λ es. Ok (x ∷ es)) ≡ Err f
    → ((g : ReadFault) → items_at parse room (suc n) ls ≡ Err g → ItemsStop parse room (suc n) ls g)
    → ItemsStop parse (suc room) n (l ∷ ls) f
stops_by_line {A = A} parse room n l ls f (Err g) read some all deeper =
    let same : g ≡ f = same_fault {B = List A} g f all in
    stops_here parse (suc room) n l ls f
    (sym (ap (λ (y : ReadFault). y.line) same) ∙ item_fault_line n (parse (words_of l)) g read)
    (λ more y ys. one_line parse room n l y ys
    ∙ (ap (λ (r : Result A ReadFault). r >>= λ x. items_at parse room (suc n) (y ∷ ys) >>= λ es. Ok (x ∷ es)) read
    ∙ ap (λ (z : ReadFault). Err z) same))
stops_by_line parse room n l ls f (Ok x) read some all deeper =
    stops_by_rest parse room n l ls f x (items_at parse room (suc n) ls) read refl all deeper

items_stop : {A : Type 0} (parse : List Word → Taken A) (room n : ℕ) (ls : List (List ℕ)) (f : ReadFault)
    → items_at parse room n ls ≡ Err f → ItemsStop parse room n ls f
items_stop parse room n [] f e = absurd (let none = none_left parse room n in cc)
items_stop parse room n (l ∷ []) f e =
    stops_here parse room n l [] f (last_fault (length l == 0) n f (sym (last_part parse room n l) ∙ e))
    (λ more. absurd (omega (arith, more)))
items_stop {A = A} parse zero n (l ∷ next ∷ more) f e =
    let long : f ≡ long_fault n =
    sym (same_fault {B = List A} (long_fault n) f (sym (too_long parse n l next more) ∙ e)) in
    stops_here parse zero n l (next ∷ more) f (ap (λ (x : ReadFault). x.line) long)
    (λ some y ys. too_long parse n l y ys ∙ ap (λ (x : ReadFault). Err x) (sym long))
items_stop parse (suc room) n (l ∷ next ∷ more) f e =
    stops_by_line parse room n l (next ∷ more) f (item_line parse n l) refl (omega arith)
    (sym (one_line parse room n l next more) ∙ e) (λ g h. items_stop parse room (suc n) (next ∷ more) g h)

-- ---- the header, and the items after it

header_fault_is : {H : Type 0} (head : List Word → Taken H) (l : List ℕ) (t : Taken H) (g : ReadFault)
    → after_header t ≡ Err g
    → g ≡ header_fault
header_fault_is head l (Ok x) g e = absurd cc
header_fault_is {H = H} head l (Err d) g e = sym (same_fault {B = H} header_fault g e)

opened_line : {H A : Type 0} (head : List Word → Taken H) (parse : H → List Word → Taken A) (limit : ℕ) (l : List ℕ)
    (zs : List (List ℕ)) → 0 < length zs
    → lines_at head parse limit (l ∷ zs)
    ≡ (header_line head l >>= λ h. items_at (parse h) limit 2 zs >>= λ es. Ok (h, es))
unfolding lines_at
opened_line head parse limit l [] some = absurd (omega arith)
opened_line head parse limit l (z ∷ zs) some = refl

first_line : (b : Bool) (f : ReadFault) → f ≡ cond b header_fault (end_fault 1) → f.line ≡ 1
first_line b f is = grind (arith, nat_tests)

alone_fault : {H A : Type 0} (head : List Word → Taken H) (parse : H → List Word → Taken A) (limit : ℕ)
    (l : List ℕ) (f : ReadFault)
    → lines_at head parse limit (l ∷ []) ≡ Err f → f.line ≡ 1
unfolding lines_at
alone_fault {H = H} {A = A} head parse limit l f e =
    first_line (length l == 0) f (sym
    (same_fault {B = H × List A} (cond (length l == 0) header_fault (end_fault 1)) f e))

abbrev LinesStop : {H A : Type 0} → (List Word → Taken H) → (H → List Word → Taken A) → ℕ → List (List ℕ)
    → ReadFault → Type 0
LinesStop head parse limit ls f =
    (s : Stops (lines_at head parse limit) 1 ls f)
    × (0 < s.behind → IsReadBefore (lines_at head parse limit) ls s.behind)

stops_behind_header : {H A : Type 0} (head : List Word → Taken H) (parse : H → List Word → Taken A) (limit : ℕ)
    (l : List ℕ)
    (ls : List (List ℕ)) (f : ReadFault) (h : H) → header_line head l ≡ Ok h → ItemsStop (parse h) limit 2 ls f
    → LinesStop head parse limit (l ∷ ls) f
stops_behind_header {H = H} {A = A} head parse limit l ls f h read (s, before) = (
  record {
    behind = suc s.behind;
    at = s.at ∙ (let same : 2 + s.behind ≡ 1 + suc s.behind = omega arith in same);
    within = omega (arith, s.within);
    again = λ longer y ys.
        let zs = take (suc s.behind) ls ++ y ∷ ys in
        opened_line head parse limit l zs (some_behind (take (suc s.behind) ls) y ys)
        ∙ (ap (λ (r : Result H ReadFault). r >>= λ k. items_at (parse k) limit 2 zs >>= λ es. Ok (k, es)) read
        ∙ ap (λ (r : Result (List A) ReadFault). r >>= λ es. Ok (h, es)) (s.again (omega (arith, longer)) y ys));
  },
  λ some. (
    (h, before.0),
    let zs = take s.behind ls ++ [] ∷ [] in
        opened_line head parse limit l zs (some_behind (take s.behind ls) [] [])
        ∙ (ap (λ (r : Result H ReadFault). r >>= λ k. items_at (parse k) limit 2 zs >>= λ es. Ok (k, es)) read
        ∙ ap (λ (r : Result (List A) ReadFault). r >>= λ es. Ok (h, es)) before.1),
  ),
)

stops_at_header : {H A : Type 0} (head : List Word → Taken H) (parse : H → List Word → Taken A) (limit : ℕ) (l : List ℕ)
    (ls : List (List ℕ)) (f : ReadFault) → header_line head l ≡ Err f → LinesStop head parse limit (l ∷ ls) f
stops_at_header {H = H} {A = A} head parse limit l ls f read = (
  record {
    behind = 0;
    at = ap (λ (y : ReadFault). y.line) (header_fault_is head l (head (words_of l)) f read);
    within = omega arith;
    again = λ longer y ys.
        opened_line head parse limit l (y ∷ ys) (omega arith)
        ∙ ap (λ (r : Result H ReadFault). r >>= λ k. items_at (parse k) limit 2 (y ∷ ys) >>= λ es. Ok (k, es)) read;
  },
  λ some. absurd (omega (arith, some)),
)

abbrev opened_with : {H A : Type 0} → H → List A → Result (H × List A) ReadFault
opened_with h es = Ok (h, es)

stops_by_items : {H A : Type 0} (head : List Word → Taken H) (parse : H → List Word → Taken A) (limit : ℕ) (l : List ℕ)
    (ls : List (List ℕ)) (f : ReadFault) (h : H) (r : Result (List A) ReadFault) → header_line head l ≡ Ok h
    → items_at (parse h) limit 2 ls ≡ r → (r >>= λ es. opened_with h es) ≡ Err f → LinesStop head parse limit (l ∷ ls) f
stops_by_items head parse limit l ls f h (Ok es) read is all = absurd cc
stops_by_items {H = H} {A = A} head parse limit l ls f h (Err g) read is all =
    let same : g ≡ f = same_fault {B = H × List A} g f all in
    stops_behind_header head parse limit l ls f h read
    (items_stop (parse h) limit 2 ls f (is ∙ ap (λ (y : ReadFault). Err y) same))

stops_by_header : {H A : Type 0} (head : List Word → Taken H) (parse : H → List Word → Taken A) (limit : ℕ) (l : List ℕ)
    (ls : List (List ℕ)) (f : ReadFault) (r : Result H ReadFault) → header_line head l ≡ r
    → (r >>= λ h. items_at (parse h) limit 2 ls >>= λ es. opened_with h es) ≡ Err f
    → LinesStop head parse limit (l ∷ ls) f
stops_by_header head parse limit l ls f (Ok h) read all =
    stops_by_items head parse limit l ls f h (items_at (parse h) limit 2 ls) read refl all
stops_by_header {H = H} {A = A} head parse limit l ls f (Err g) read all =
    let same : g ≡ f = same_fault {B = H × List A} g f all in
    stops_at_header head parse limit l ls f (read ∙ ap (λ (y : ReadFault). Err y) same)

lines_stop : {H A : Type 0} (head : List Word → Taken H) (parse : H → List Word → Taken A) (limit : ℕ) (l : List ℕ)
    (ls : List (List ℕ)) (f : ReadFault) → lines_at head parse limit (l ∷ ls) ≡ Err f
    → LinesStop head parse limit (l ∷ ls) f
lines_stop head parse limit l [] f e = (
  record {
    behind = 0;
    at = alone_fault head parse limit l f e;
    within = omega arith;
    again = λ more. absurd (omega (arith, more));
  },
  λ some. absurd (omega (arith, some)),
)
lines_stop head parse limit l (next ∷ more) f e =
    stops_by_header head parse limit l (next ∷ more) f (header_line head l) refl
    (sym (opened_line head parse limit l (next ∷ more) (omega arith)) ∙ e)

-- ---- the text of a history

-- some text begins with no bytes
any_text : (limit : ℕ) → BeginsText limit []
any_text limit =
    let h = heading 1 Pb 1 0 Buffer 1 in (
      h,
      [],
      text h [],
      record {
        header_fits = record {
          named = omega arith;
          still_named = omega arith;
          some_seat = omega arith;
          seats = omega arith;
          conds = omega arith;
          some_size = omega arith;
          size = omega arith;
        };
        events_fit = tt;
        writable = refl;
      },
      omega arith,
      refl,
    )

stops_in : (limit : ℕ) (bytes : List ℕ) (f : ReadFault) → text_at limit bytes ≡ Err f
    → LinesStop header_at event_under limit (lines_of bytes) f
stops_in limit bytes f e =
    let part = some_part (λ b. b == 10) bytes in
    subst (λ (ls : List (List ℕ)). LinesStop header_at event_under limit ls f) (sym part.2)
    (lines_stop header_at event_under limit part.0 part.1 f
    (subst (λ (ls : List (List ℕ)). lines_at header_at event_under limit ls ≡ Err f) part.2 e))

begins_before : (limit : ℕ) (bytes : List ℕ) (f : ReadFault) (i : ℕ)
    → (0 < i → IsReadBefore (lines_at header_at event_under limit) (lines_of bytes) i)
    → BeginsText limit (first_lines i bytes)
begins_before limit bytes f zero before = any_text limit
begins_before limit bytes f (suc i) before =
    let r = before (omega arith) in
    let front = first_lines (suc i) bytes in
    let read : text_at limit (front ++ []) ≡ Ok r.0 =
    ap (lines_at header_at event_under limit) (lines_of_first (suc i) bytes []) ∙ r.1 in
    let found = text_read limit (front ++ []) r.0 read in
    (r.0.0, r.0.1, [], found.has_text, found.few, sym found.whole)

never_with : (limit : ℕ) (bytes : List ℕ) (f : ReadFault) (i : ℕ)
    → ((y : List ℕ) (ys : List (List ℕ))
    → lines_at header_at event_under limit (take (suc i) (lines_of bytes) ++ y ∷ ys) ≡ Err f)
    → BeginsText limit (first_lines (suc i) bytes) → ⊥
never_with limit bytes f i again (h, es, rest, has, few, same) =
    let part = some_part (λ b. b == 10) rest in
    let wrong : text_at limit (first_lines (suc i) bytes ++ rest) ≡ Err f =
    ap (lines_at header_at event_under limit) (lines_of_first (suc i) bytes rest
    ∙ ap (λ (zs : List (List ℕ)). take (suc i) (lines_of bytes) ++ zs) part.2) ∙ again part.0 part.1 in
    grind (arith, nat_tests, Ok, text_again)

pub fault_is_first : (limit : ℕ) (bytes : List ℕ) (f : ReadFault) → text_at limit bytes ≡ Err f
    → IsFirstFaulty limit bytes f.line
fault_is_first limit bytes f e =
    let stop = stops_in limit bytes f e in
    let s = stop.0 in
    let line : f.line ≡ suc s.behind = s.at ∙ (let same : 1 + s.behind ≡ suc s.behind = omega arith in same) in
    let before : f.line - 1 ≡ s.behind = omega (arith, line) in
    record {
      before =
          subst (λ (i : ℕ). BeginsText limit (first_lines i bytes)) (sym before)
          (begins_before limit bytes f s.behind stop.1);
      never = λ finished begins.
          never_with limit bytes f s.behind (s.again (omega (arith, line, finished)))
          (subst (λ (i : ℕ). BeginsText limit (first_lines i bytes)) line begins);
    }
