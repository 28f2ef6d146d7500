-- Visits and those whom they overtake, after one more line
use Rattle.std.proofs.Common.{◌≡◌, ℕ, ◌+◌, ◌<◌, ◌≤◌, ◌⊎◌, inl, inr, true, false, List, [], ◌∷◌, ◌++◌, length, refl, sym, ap, subst, arith, ◌∙◌}
use Rattle.monk_logs.specs.{LastLine.signals_to, Log.line_seat}
use Rattle.monk_logs.specs.declared.text.line.LogLine.{LogLine, TheVariants.Enter, TheVariants.Leave}
use Rattle.monk_judge.proofs.{Among.here_or_below, Moments.moment_kept, Moments.moment_last}
use Rattle.monk_judge.specs.{declared.place.Place.TheVariants.Woken, Holding.takes_lock, Run.State}
use Rattle.monk_judge.specs.Overtaken.{IsPassed, IsRival, IsVisit, seat_at, waits_in}
use Rattle.monk_judge.specs.Moments.{Moment, moment}
use Rattle.std.proofs.lemmas.Bool.Decides.{nat_tests}

-- the visit from some line on may overtake the seat: since then it was woken, and nobody signalled there
pub record IsPassing (all : List Moment) (n s c : ℕ) : Type 0 where
  pub by : ℕ
  pub visit : IsVisit all by n c
  pub woken : (i : ℕ) → by ≤ i → i < n → (moment all i).behind.place s ≡ Woken c

-- ---- the lines before stay as they were

pub seat_kept : (all : List Moment) (t : Moment) (k : ℕ) → k < length all → seat_at (all ++ t ∷ []) k ≡ seat_at all k
seat_kept all t k lt = ap (λ z. line_seat z.line) (moment_kept all t k lt)

visit_on : (all : List Moment) (t : Moment) (by n c : ℕ) → n ≤ length all → IsVisit all by n c
    → IsVisit (all ++ t ∷ []) by n c
visit_on all t by n c le h = grind (arith, nat_tests, moment_kept)

visit_off : (all : List Moment) (t : Moment) (by n c : ℕ) → n ≤ length all → IsVisit (all ++ t ∷ []) by n c
    → IsVisit all by n c
visit_off all t by n c le h = grind (arith, nat_tests, moment_kept)

rival_on : (log : List LogLine) (all : List Moment) (t : Moment) (by end c : ℕ) → end < length all
    → IsRival log all by end c → IsRival log (all ++ t ∷ []) by end c
rival_on log all t by end c lt h = grind (arith, nat_tests, seat_kept, visit_on, moment_kept)

rival_off : (log : List LogLine) (all : List Moment) (t : Moment) (by end c : ℕ) → end < length all
    → IsRival log (all ++ t ∷ []) by end c → IsRival log all by end c
rival_off log all t by end c lt h = grind (arith, nat_tests, seat_kept, visit_off, moment_kept)

woken_on : (all : List Moment) (t : Moment) (by n s c : ℕ) → n ≤ length all
    → ((i : ℕ) → by ≤ i → i < n → (moment all i).behind.place s ≡ Woken c)
    → (i : ℕ) → by ≤ i → i < n → (moment (all ++ t ∷ []) i).behind.place s ≡ Woken c
woken_on all t by n s c le h i from lt = grind (arith, nat_tests, moment_kept)

woken_off : (all : List Moment) (t : Moment) (by n s c : ℕ) → n ≤ length all
    → ((i : ℕ) → by ≤ i → i < n → (moment (all ++ t ∷ []) i).behind.place s ≡ Woken c)
    → (i : ℕ) → by ≤ i → i < n → (moment all i).behind.place s ≡ Woken c
woken_off all t by n s c le h i from lt = grind (arith, nat_tests, moment_kept)

pub passed_kept : (log : List LogLine) (all : List Moment) (t : Moment) (n s c : ℕ) → n ≤ length all
    → (IsPassed log all n s c → IsPassed log (all ++ t ∷ []) n s c)
    × (IsPassed log (all ++ t ∷ []) n s c → IsPassed log all n s c)
passed_kept log all t n s c le = (
  λ h. record {
    by = h.by;
    end = h.end;
    before = h.before;
    rival = rival_on log all t h.by h.end c (omega (arith, le, h.before)) h.rival;
    woken = woken_on all t h.by n s c le h.woken;
  },
  λ h. record {
    by = h.by;
    end = h.end;
    before = h.before;
    rival = rival_off log all t h.by h.end c (omega (arith, le, h.before)) h.rival;
    woken = woken_off all t h.by n s c le h.woken;
  },
)

-- ---- one line more

-- a property of each moment from some line on, up to the last
each_more : (all : List Moment) (t : Moment) (P : Moment → Type 0) (from : ℕ) → P t
    → ((i : ℕ) → from ≤ i → i < length all → P (moment (all ++ t ∷ []) i))
    → (i : ℕ) → from ≤ i → i < length all + 1 → P (moment (all ++ t ∷ []) i)
each_more all t P from now before i le lt =
    elim (here_or_below i (length all) lt) as (λ z. P (moment (all ++ t ∷ []) i)) [
      | inl last ↦ subst P (sym (ap (λ k. moment (all ++ t ∷ []) k) last ∙ moment_last all t)) now
      | inr less ↦ before i le less
    ]

woken_more : (all : List Moment) (t : Moment) (y : State) (by s c : ℕ) → t.behind ≡ y → y.place s ≡ Woken c
    → ((i : ℕ) → by ≤ i → i < length all → (moment all i).behind.place s ≡ Woken c)
    → (i : ℕ) → by ≤ i → i < length all + 1 → (moment (all ++ t ∷ []) i).behind.place s ≡ Woken c
woken_more all t y by s c leads woken h =
    each_more all t (λ z. z.behind.place s ≡ Woken c) by (ap (λ k. k.place s) leads ∙ woken)
    (woken_on all t by (length all) s c (omega arith) h)

woken_last : (all : List Moment) (t : Moment) (y : State) (by s c : ℕ) → t.behind ≡ y → by < length all + 1
    → ((i : ℕ) → by ≤ i → i < length all + 1 → (moment (all ++ t ∷ []) i).behind.place s ≡ Woken c)
    → y.place s ≡ Woken c
woken_last all t y by s c leads lt h =
    sym (ap (λ k. k.place s) leads) ∙ sym (ap (λ k. k.behind.place s) (moment_last all t))
    ∙ h (length all) (omega arith) (omega arith)

pub passing_more : (all : List Moment) (t : Moment) (y : State) (s c : ℕ) → t.behind ≡ y → y.place s ≡ Woken c
    → takes_lock t.line ≡ false → signals_to c t.line ≡ false → IsPassing all (length all) s c
    → IsPassing (all ++ t ∷ []) (length all + 1) s c
passing_more all t y s c leads woken free quiet h =
    let old = visit_on all t h.by (length all) c (omega arith) h.visit in
    record {
      by = h.by;
      visit = record {
        before = omega (arith, old.before);
        comes = old.comes;
        alone = λ i from lt. each_more all t (λ z. takes_lock z.line ≡ false) (h.by + 1) free
            (λ j after less. old.alone j (omega arith) less) i (omega arith) lt;
        quiet = λ i from lt. each_more all t (λ z. signals_to c z.line ≡ false) (h.by + 1) quiet
            (λ j after less. old.quiet j (omega arith) less) i (omega arith) lt;
      };
      woken = woken_more all t y h.by s c leads woken h.woken;
    }

-- a thread comes in, and the seat is woken
pub passing_now : (all : List Moment) (t : Moment) (y : State) (s c k : ℕ) → t.behind ≡ y → y.place s ≡ Woken c
    → t.line ≡ Enter k → IsPassing (all ++ t ∷ []) (length all + 1) s c
passing_now all t y s c k leads woken comes = record {
  by = length all;
  visit = record {
    before = omega arith;
    comes = grind (arith, nat_tests, moment_last);
    alone = λ i from lt. absurd (omega arith);
    quiet = λ i from lt. absurd (omega arith);
  };
  woken = each_more all t (λ z. z.behind.place s ≡ Woken c) (length all) (ap (λ k. k.place s) leads ∙ woken)
      (λ i from lt. absurd (omega arith));
}

-- the line came first
pub record CameNow (t : Moment) : Type 0 where
  pub seat : ℕ
  pub line : t.line ≡ Enter seat

-- the visit went on, and the line is no signal
pub record GoesOnInside (all : List Moment) (t : Moment) (s c : ℕ) : Type 0 where
  pub old : IsPassing all (length all) s c
  pub free : takes_lock t.line ≡ false
  pub quiet : signals_to c t.line ≡ false

at_last : (all : List Moment) (t : Moment) (P : Moment → Type 0) (k : ℕ) → k ≡ length all
    → P (moment (all ++ t ∷ []) k) → P t
at_last all t P k is h = subst P (ap (λ j. moment (all ++ t ∷ []) j) is ∙ moment_last all t) h

pub passing_back : (all : List Moment) (t : Moment) (y : State) (s c : ℕ) → t.behind ≡ y
    → IsPassing (all ++ t ∷ []) (length all + 1) s c
    → (y.place s ≡ Woken c) × (CameNow t ⊎ GoesOnInside all t s c)
passing_back all t y s c leads h = (
  woken_last all t y h.by s c leads h.visit.before h.woken,
  elim (here_or_below h.by (length all) h.visit.before) as (λ z. CameNow t ⊎ GoesOnInside all t s c) [
    | inl last ↦ inl (record {
      seat = line_seat t.line;
      line = at_last all t (λ z. z.line ≡ Enter (line_seat z.line)) h.by last h.visit.comes;
    })
    | inr less ↦ inr (record {
      old = record {
        by = h.by;
        visit = visit_off all t h.by (length all) c (omega arith) (record {
          before = less;
          comes = h.visit.comes;
          alone = λ i from lt. h.visit.alone i from (omega arith);
          quiet = λ i from lt. h.visit.quiet i from (omega arith);
        });
        woken = woken_off all t h.by (length all) s c (omega arith) (λ i from lt. h.woken i from (omega arith));
      };
      free = at_last all t (λ z. takes_lock z.line ≡ false) (length all) refl
          (h.visit.alone (length all) less (omega arith));
      quiet = at_last all t (λ z. signals_to c z.line ≡ false) (length all) refl
          (h.visit.quiet (length all) less (omega arith));
    })
  ],
)

-- ---- who was passed

pub passed_more : (log : List LogLine) (all : List Moment) (t : Moment) (y : State) (s c : ℕ) → t.behind ≡ y
    → y.place s ≡ Woken c → IsPassed log all (length all) s c → IsPassed log (all ++ t ∷ []) (length all + 1) s c
passed_more log all t y s c leads woken h = record {
  by = h.by;
  end = h.end;
  before = omega (arith, h.before);
  rival = rival_on log all t h.by h.end c h.before h.rival;
  woken = woken_more all t y h.by s c leads woken h.woken;
}

-- the thread of the visit leaves
pub passed_now : (log : List LogLine) (all : List Moment) (t : Moment) (y : State) (s c k : ℕ)
    (h : IsPassing all (length all) s c) → t.behind ≡ y → y.place s ≡ Woken c → t.line ≡ Leave k
    → seat_at all h.by ≡ k → waits_in log k c ≡ true → IsPassed log (all ++ t ∷ []) (length all + 1) s c
passed_now log all t y s c k h leads woken leaves seat waits =
    let same : seat_at (all ++ t ∷ []) h.by ≡ k = seat_kept all t h.by h.visit.before ∙ seat in
    record {
      by = h.by;
      end = length all;
      before = omega arith;
      rival = record {
        visit = visit_on all t h.by (length all) c (omega arith) h.visit;
        leaves = ap (λ z. z.line) (moment_last all t) ∙ leaves ∙ ap Leave (sym same);
        waits = subst (λ j. waits_in log j c ≡ true) (sym same) waits;
      };
      woken = woken_more all t y h.by s c leads woken h.woken;
    }

-- the line ends the visit of a rival
pub record LeavesNow (log : List LogLine) (all : List Moment) (t : Moment) (s c : ℕ) : Type 0 where
  pub seat : ℕ
  pub line : t.line ≡ Leave seat
  pub waits : waits_in log seat c ≡ true
  pub old : IsPassing all (length all) s c

pub passed_back : (log : List LogLine) (all : List Moment) (t : Moment) (y : State) (s c : ℕ) → t.behind ≡ y
    → IsPassed log (all ++ t ∷ []) (length all + 1) s c
    → (y.place s ≡ Woken c) × (LeavesNow log all t s c ⊎ IsPassed log all (length all) s c)
passed_back log all t y s c leads h =
    let first : h.by < h.end = h.rival.visit.before in (
      woken_last all t y h.by s c leads (omega (arith, h.before)) h.woken,
      elim (here_or_below h.end (length all) h.before) as
          (λ z. LeavesNow log all t s c ⊎ IsPassed log all (length all) s c) [
            | inl last ↦
                let visit : IsVisit (all ++ t ∷ []) h.by (length all) c = grind (arith, nat_tests) in
                inl (record {
                  seat = seat_at (all ++ t ∷ []) h.by;
                  line = at_last all t (λ z. z.line ≡ Leave (seat_at (all ++ t ∷ []) h.by)) h.end last h.rival.leaves;
                  waits = h.rival.waits;
                  old = record {
                    by = h.by;
                    visit = visit_off all t h.by (length all) c (omega arith) visit;
                    woken = woken_off all t h.by (length all) s c (omega arith)
                        (λ i from lt. h.woken i from (omega arith));
                  };
                })
            | inr less ↦ inr ((passed_kept log all t (length all) s c (omega arith)).1 (record {
              by = h.by;
              end = h.end;
              before = less;
              rival = h.rival;
              woken = λ i from lt. h.woken i from (omega arith);
            }))
          ],
    )
