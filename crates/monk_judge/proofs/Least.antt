-- No run has fewer wake-ups that nobody sent than the judge's
use Rattle.std.proofs.Common.{◌≡◌, ℕ, zero, suc, ◌+◌, ◌<◌, ◌≤◌, ◌==◌, ◌&&◌, inl, inr, Bool, true, false, List, [], ◌∷◌, refl, sym, ap, arith, ◌∙◌, if◌then◌else◌}
use Rattle.std.proofs.lemmas.Bool.{cases_Bool, eq-eqb, eqb-true, false≢true, ne_eqb, Decides.nat_tests}
use Rattle.monk_logs.specs.Log.{is_lapse, line_seat}
use Rattle.monk_logs.specs.declared.text.line.LogLine.{LogLine, TheVariants.Resume}
use Rattle.monk_judge.proofs.{LinesAhead.past_other, LinesAhead.past_own, Complete.Foreseen}
use Rattle.monk_judge.proofs.Counting.{count_below, count_drop, count_moved, count_none, count_same, count_some, lt_or}
use Rattle.monk_judge.specs.{Run.Sleeps, Run.run_out, Run.woken, Run.woken_unasked, Run.with_place, Counts.count}
use Rattle.monk_judge.specs.{Counts.one, Counts.waits_on, Ends.is_resume, Ends.lapses_next, Ends.resumes_within}
use Rattle.monk_judge.specs.declared.place.Place.{Place}
use Rattle.monk_judge.specs.declared.place.Place.TheVariants.{Outside, Active, Waiting, Woken, RanOut}

-- whether a thread in that place came to sleep on the condition and wasn't woken
abbrev pub asleep_on : ℕ → Place → Bool
asleep_on c Outside = false
asleep_on c Active = false
asleep_on c (Waiting e) = e == c
asleep_on c (Woken e) = false
asleep_on c (RanOut e) = e == c

-- and it goes on within the first `d` lines
abbrev pub due : ℕ → (ℕ → Place) → ℕ → List LogLine → ℕ → Bool
due c place d lines j = asleep_on c (place j) && resumes_within j d lines

and_false : (b : Bool) → (b && false) ≡ false
and_false b = grind (arith, nat_tests)

and_true : (b : Bool) → (b && true) ≡ b
and_true b = grind (arith, nat_tests)

-- ---- silent steps of the other run

pub asleep_out : (c : ℕ) (p : Place) → asleep_on c (run_out p) ≡ asleep_on c p
asleep_out c p = grind (arith, nat_tests)

with_same_by : (j s : ℕ) (p : Place) (f : ℕ → Place) (c : ℕ) (b : Bool) → (j == s) ≡ b
    → asleep_on c p ≡ asleep_on c (f s)
    → asleep_on c (if b then p else f j) ≡ asleep_on c (f j)
with_same_by j s p f c b e h = grind (arith, nat_tests)

pub due_same : (s : ℕ) (p : Place) (f : ℕ → Place) (c d : ℕ) (lines : List LogLine) → asleep_on c p ≡ asleep_on c (f s)
    → (j : ℕ) → due c (with_place s p f) d lines j ≡ due c f d lines j
due_same s p f c d lines h j = ap (λ b. b && resumes_within j d lines) (with_same_by j s p f c (j == s) refl h)

pub elsewhere : (s : ℕ) (p : Place) (f : ℕ → Place) (j : ℕ) → (j ≡ s → ⊥) → with_place s p f j ≡ f j
elsewhere s p f j ne = ap (λ b. if b then p else f j) (ne_eqb j s ne)

pub here : (s : ℕ) (p : Place) (f : ℕ → Place) → with_place s p f s ≡ p
here s p f = ap (λ b. if b then p else f s) (eq-eqb s s refl)

pub due_elsewhere : (s : ℕ) (p : Place) (f : ℕ → Place) (c d : ℕ) (lines : List LogLine) (j : ℕ) → (j ≡ s → ⊥)
    → due c (with_place s p f) d lines j ≡ due c f d lines j
due_elsewhere s p f c d lines j ne = ap (λ q. asleep_on c q && resumes_within j d lines) (elsewhere s p f j ne)

-- if a thread wakes unasked, at most one less is due, and none if it slept elsewhere
pub unasked_drop : (n s : ℕ) (p : Place) (f : ℕ → Place) (c d : ℕ) (lines : List LogLine) → Sleeps p → f s ≡ p
    → count (due c f d lines) n ≤ count (due c (with_place s (woken_unasked p) f) d lines) n + one (waits_on c p)
unasked_drop n s Outside f c d lines h e = absurd h
unasked_drop n s Active f c d lines h e = absurd h
unasked_drop n s (Waiting x) f c d lines h e =
    elim (cases_Bool (x == c)) as (λ k. count (due c f d lines) n ≤ count (due c (with_place s (Woken x) f) d lines)
    n + one (x == c)) [
      | inl same ↦
          let a = count_drop (due c f d lines) (due c (with_place s (Woken x) f) d lines) s n
          (λ j ne. sym (due_elsewhere s (Woken x) f c d lines j ne)) in
          let b : one (x == c) ≡ 1 = ap one same in omega arith
      | inr other ↦ grind (arith, nat_tests, count_same, due_same)
    ]
unasked_drop n s (Woken x) f c d lines h e = absurd h
unasked_drop n s (RanOut x) f c d lines h e = absurd h

-- ---- past a line

-- the line moves only its own thread
moved_count : (n c d : ℕ) (l : LogLine) (rest : List LogLine) (f g : ℕ → Place) → line_seat l < n
    → ((j : ℕ) → (j ≡ line_seat l → ⊥) → g j ≡ f j)
    → count (due c f (suc d) (l ∷ rest)) n + one (asleep_on c (g (line_seat l)) && resumes_within (line_seat l) d rest)
    ≡ count (due c g d rest) n + one (asleep_on c (f (line_seat l)) && is_resume l)
moved_count n c d l rest f g lt same =
    count_moved (due c f (suc d) (l ∷ rest)) (due c g d rest) (line_seat l) n
    (λ j ne. ap (λ b. asleep_on c (f j) && b) (past_other l rest j d ne)
    ∙ ap (λ p. asleep_on c p && resumes_within j d rest) (sym (same j ne))) lt
    ∙ ap (λ b. count (due c g d rest) n + one (asleep_on c (f (line_seat l)) && b)) (past_own l rest d)

-- ---- the judge compared with another run

pub record Dom (n c : ℕ) (f g : ℕ → Place) (lines : List LogLine) (most kx ky : ℕ) : Type 0 where
  pub cost : kx ≤ ky
  pub due : (d : ℕ) → d ≤ most → count (due c f d lines) n + kx ≤ count (due c g d lines) n + ky

none_due : (n c : ℕ) (p : Place) (l : LogLine) → is_resume l ≡ false → one (asleep_on c p && is_resume l) ≡ 0
none_due n c p l h = ap (λ b. one (asleep_on c p && b)) h ∙ ap one (and_false (asleep_on c p))

-- a line other than a resume moves only its own thread, to where it sleeps in both runs or in neither
pub dom_still : (n c most kx ky : ℕ) (l : LogLine) (rest : List LogLine) (f g f2 g2 : ℕ → Place) → line_seat l < n
    → is_resume l ≡ false
    → ((j : ℕ) → (j ≡ line_seat l → ⊥) → f2 j ≡ f j) → ((j : ℕ) → (j ≡ line_seat l → ⊥) → g2 j ≡ g j)
    → asleep_on c (f2 (line_seat l)) ≡ asleep_on c (g2 (line_seat l))
    → Dom n c f g (l ∷ rest) (suc most) kx ky → Dom n c f2 g2 rest most kx ky
dom_still n c most kx ky l rest f g f2 g2 lt plain ox oy same h = record {
  cost = h.cost;
  due = λ d le.
      let a = moved_count n c d l rest f f2 lt ox in
      let b = moved_count n c d l rest g g2 lt oy in
      let za = none_due n c (f (line_seat l)) l plain in
      let zb = none_due n c (g (line_seat l)) l plain in
      let e : one (asleep_on c (f2 (line_seat l)) && resumes_within (line_seat l) d rest) ≡ one
      (asleep_on c (g2 (line_seat l)) && resumes_within (line_seat l) d rest)
      = ap (λ k. one (k && resumes_within (line_seat l) d rest)) same in
      let old = h.due (suc d) (omega arith) in omega arith;
}

-- a thread comes back that was woken in the other run

first_only : (n c s : ℕ) (f : ℕ → Place) (rest : List LogLine) → s < n
    → count (due c f 1 (Resume s ∷ rest)) n ≡ one (asleep_on c (f s))
first_only n c s f rest lt =
    let b = count_moved (due c f 1 (Resume s ∷ rest)) (λ j. false) s n
    (λ j ne. ap (λ b. asleep_on c (f j) && (if b then true else false)) (ne_eqb j s ne)
    ∙ and_false (asleep_on c (f j))) lt in
    let z = count_none (λ j. false) n (λ j. refl) in
    let o : one (due c f 1 (Resume s ∷ rest) s) ≡ one (asleep_on c (f s)) =
    grind (arith, nat_tests, eq-eqb, and_true) in
    omega arith

pub dom_back : (n c most kx ky s : ℕ) (rest : List LogLine) (f g f2 g2 : ℕ → Place) → s < n
    → ((j : ℕ) → (j ≡ s → ⊥) → f2 j ≡ f j) → ((j : ℕ) → (j ≡ s → ⊥) → g2 j ≡ g j)
    → asleep_on c (f2 s) ≡ false → asleep_on c (g2 s) ≡ false → asleep_on c (g s) ≡ false
    → Dom n c f g (Resume s ∷ rest) (suc most) kx ky → Dom n c f2 g2 rest most (kx + one (asleep_on c (f s))) ky
dom_back n c most kx ky s rest f g f2 g2 lt ox oy zf zg zy h = record {
  cost =
      let first = h.due 1 (omega arith) in
      let a = first_only n c s f rest lt in
      let b = first_only n c s g rest lt in
      let z : one (asleep_on c (g s)) ≡ 0 = ap one zy in omega arith;
  due = λ d le.
      let a = moved_count n c d (Resume s) rest f f2 lt ox in
      let b = moved_count n c d (Resume s) rest g g2 lt oy in
      let a0 : one (asleep_on c (f2 s) && resumes_within s d rest) ≡ 0 = grind (arith, nat_tests) in
      let b0 : one (asleep_on c (g2 s) && resumes_within s d rest) ≡ 0 = grind (arith, nat_tests) in
      let a1 : one (asleep_on c (f s) && true) ≡ one (asleep_on c (f s)) = ap one (and_true (asleep_on c (f s))) in
      let b1 : one (asleep_on c (g s) && true) ≡ 0 = ap (λ k. one (k && true)) zy in
      let old = h.due (suc d) (omega arith) in omega arith;
}

-- the line of a signal moves nobody itself, and its own thread doesn't sleep
pub dom_past : (n c most kx ky : ℕ) (l : LogLine) (rest : List LogLine) (f g : ℕ → Place) → line_seat l < n
    → is_resume l ≡ false
    → asleep_on c (f (line_seat l)) ≡ false → asleep_on c (g (line_seat l)) ≡ false
    → Dom n c f g (l ∷ rest) (suc most) kx ky → Dom n c f g rest most kx ky
dom_past n c most kx ky l rest f g lt plain zf zg h =
    dom_still n c most kx ky l rest f g f g lt plain (λ j ne. refl) (λ j ne. refl) (zf ∙ sym zg) h

-- a signal on that condition: the judge wakes the first thread that goes on
less_or : (f g : ℕ → Bool) (s n : ℕ) → ((j : ℕ) → (j ≡ s → ⊥) → f j ≡ g j) → g s ≡ false → s < n
    → count f n ≡ count g n + one (f s)
less_or f g s n h z lt = let a = count_moved f g s n h lt in let b : one (g s) ≡ 0 = ap one z in omega arith

count_down : (f g : ℕ → Bool) (s n : ℕ) → ((j : ℕ) → (j ≡ s → ⊥) → f j ≡ g j) → g s ≡ false → count g n ≤ count f n
count_down f g s n h z =
    elim (lt_or s n) as (λ k. count g n ≤ count f n) [
      | inl lt ↦ let a = less_or f g s n h z lt in omega arith
      | inr le ↦ let a = count_below f g s n h le in omega arith
    ]

pub dom_signal : (n c e most kx ky : ℕ) (rest : List LogLine) (f g g2 : ℕ → Place) (k : ℕ) → f k ≡ Waiting e
    → (e == c) ≡ true
    → ((d : ℕ) → count (due c g d rest) n ≤ count (due c g2 d rest) n + 1)
    → ((i d : ℕ) → due c f d rest i ≡ true → (k < n) × (resumes_within k d rest ≡ true))
    → Dom n c f g rest most kx ky → Dom n c (with_place k (Woken e) f) g2 rest most kx ky
dom_signal n c e most kx ky rest f g g2 k is same drop first h = record {
  cost = h.cost;
  due = λ d le.
      let old = h.due d le in
      let y = drop d in
      let off : (j : ℕ) → (j ≡ k → ⊥) → due c f d rest j ≡ due c (with_place k (Woken e) f) d rest j =
      grind (arith, nat_tests, due_elsewhere) in
      let own0 : due c (with_place k (Woken e) f) d rest k ≡ false = grind (arith, nat_tests, here) in
      let down = count_down (due c f d rest) (due c (with_place k (Woken e) f) d rest) k n off own0 in
      elim (count_some (due c f d rest) n) as (λ v. count (due c (with_place k (Woken e) f) d rest) n + kx ≤ count
      (due c g2 d rest) n + ky) [
        | inl none ↦ let cost = h.cost in omega arith
        | inr it ↦
            let got = first it.at d it.passes in
            let x = less_or (due c f d rest) (due c (with_place k (Woken e) f) d rest) k n off own0 got.0 in
            let own : due c f d rest k ≡ true = grind (arith, nat_tests) in
            let o : one (due c f d rest k) ≡ 1 = ap one own in omega arith
      ];
}

-- the judge finds no sleeper there that goes on
pub dom_nobody : (n c most kx ky : ℕ) (rest : List LogLine) (f g2 : ℕ → Place) → ((j d : ℕ) → due c f d rest j ≡ false)
    → kx ≤ ky → Dom n c f g2 rest most kx ky
dom_nobody n c most kx ky rest f g2 none cost = record {
  cost = cost;
  due = λ d le. let a = count_none (due c f d rest) n (λ j. none j d) in omega arith;
}

pub dom_same : (n c most kx ky : ℕ) (rest : List LogLine) (f g f2 g2 : ℕ → Place)
    → ((j d : ℕ) → due c f2 d rest j ≡ due c f d rest j)
    → ((j d : ℕ) → due c g2 d rest j ≡ due c g d rest j) → Dom n c f g rest most kx ky → Dom n c f2 g2 rest most kx ky
dom_same n c most kx ky rest f g f2 g2 x y h = record {
  cost = h.cost;
  due = λ d le.
      let a = count_same (due c f2 d rest) (due c f d rest) n (λ j. x j d) in
      let b = count_same (due c g2 d rest) (due c g d rest) n (λ j. y j d) in
      let old = h.due d le in omega arith;
}

-- ---- what the judge foresees

lapses_by : (b : Bool) (l : LogLine) (j d : ℕ) (rest : List LogLine)
    → (lapses_next j rest ≡ true → resumes_within j d rest ≡ false)
    → (if b then is_lapse l else lapses_next j rest) ≡ true
    → (if b then is_resume l else resumes_within j d rest) ≡ false
lapses_by b l j d rest next h = grind (arith, nat_tests)

lapses_not : (j d : ℕ) (rest : List LogLine) → lapses_next j rest ≡ true → resumes_within j d rest ≡ false
lapses_not j zero rest h = refl
lapses_not j (suc d) [] h = refl
lapses_not j (suc d) (l ∷ rest) h = lapses_by (j == line_seat l) l j d rest (lapses_not j d rest) h

pub and_parts_true : (a b : Bool) → (a && b) ≡ true → (a ≡ true) × (b ≡ true)
and_parts_true a b h = grind (arith, nat_tests)

-- a thread that is due for the judge sleeps there
pub due_sleeps : (c e j d : ℕ) (p : Place) (rest : List LogLine) → Foreseen p (lapses_next j rest) → (e == c) ≡ true
    → (asleep_on c p && resumes_within j d rest) ≡ true → p ≡ Waiting e
due_sleeps c e j d p rest f same h = grind (arith, nat_tests, false≢true, and_parts_true, eqb-true, lapses_not)

-- after a broadcast nobody is due
woken_calm_by : (c e x : ℕ) (b : Bool) → (x == e) ≡ b → (e == c) ≡ true
    → asleep_on c (if b then Woken x else Waiting x) ≡ false
woken_calm_by c e x b h same = grind (arith, nat_tests)

pub woken_calm : (c e j d : ℕ) (p : Place) (rest : List LogLine) → Foreseen p (lapses_next j rest) → (e == c) ≡ true
    → (asleep_on c (woken e p) && resumes_within j d rest) ≡ false
woken_calm c e j d p rest f same = grind (arith, nat_tests, woken_calm_by, lapses_not, and_false)

pub woken_other : (c e : ℕ) (p : Place) → (e == c) ≡ false → asleep_on c (woken e p) ≡ asleep_on c p
woken_other c e p other = grind (arith, nat_tests)
