-- Who was passed, and who comes back so, after one more line
use Rattle.std.proofs.Common.{◌≡◌, ℕ, ◌+◌, ◌<◌, ◌==◌, ◌⊎◌, inl, inr, Bool, true, false, List, [], ◌∷◌, ◌++◌, Option, Some, None, length, get_or, if◌then◌else◌, refl, sym, ap, subst, arith, ◌∙◌}
use Rattle.std.proofs.lemmas.Bool.{eqb-true, false≢true, Decides.nat_tests}
use Rattle.monk_object.specs.declared.op.Op.{Op}
use Rattle.monk_logs.specs.Log.{line_seat}
use Rattle.monk_logs.specs.declared.text.line.LogLine.{LogLine}
use Rattle.monk_logs.specs.declared.text.line.LogLine.TheVariants.{Enter, Resume, Lapse, Leave, Wait, Signal, Broadcast}
use Rattle.monk_logs.specs.declared.text.line.LogLine.TheVariants.{Until, Act}
use Rattle.monk_judge.proofs.{Among.here_or_below, Missing.more_many, Moments.moment_kept, Moments.moment_last}
use Rattle.monk_judge.proofs.Visits.{IsPassing, LeavesNow, passed_back, passed_kept, passed_more, passed_now, seat_kept}
use Rattle.monk_judge.proofs.Passing.{Alone, Line, Marks, MarksMore, closed_next, open_next, some_none, some_some}
use Rattle.monk_judge.proofs.Passing.{still_passing, still_woken, unmarked_by, unmarked_none, woken_same}
use Rattle.monk_judge.proofs.Moves.{Moves, active_woken}
use Rattle.monk_judge.specs.{Ends.is_resume, Holding.takes_lock, Moments.Moment, Moments.moment, Run.State}
use Rattle.monk_judge.specs.Hints.{marked, passed_after, passed_of, unmarked}
use Rattle.monk_judge.specs.Overtaken.{IsOvertaken, IsOvertakenOn, IsPassed, seat_at, waits_in}

-- ---- who was passed

-- the seat was passed before, and doesn't come back with the line
stays_passed : (log : List LogLine) (seats : ℕ) (all : List Moment) (t : Moment) (l : LogLine) (x y : State)
    (passing passed : List (Option ℕ)) (s c : ℕ) → Line log seats all t l x y passing passed → s < seats
    → (takes_lock l ≡ true → s ≡ line_seat l → ⊥) → get_or passed s None ≡ Some c
    → IsPassed log (all ++ t ∷ []) (length all + 1) s c
stays_passed log seats all t l x y passing passed s c it lt apart h =
    let old = it.was.some s c lt h in
    passed_more log all t y s c it.leads
    (it.moves.still s c (still_woken log seats all x passing passed s c it.was old) apart) old

-- the thread that leaves is the one whose visit it was
leaver : (log : List LogLine) (seats : ℕ) (all : List Moment) (t : Moment) (x y : State)
    (passing passed : List (Option ℕ)) (s c k : ℕ) (h : IsPassing all (length all) s c)
    → Line log seats all t (Leave k) x y passing passed → seat_at all h.by ≡ k
leaver log seats all t x y passing passed s c k h it = grind (arith, nat_tests)

-- a rival may leave
leaves_passed : (log : List LogLine) (seats : ℕ) (all : List Moment) (t : Moment) (x y : State)
    (passing passed : List (Option ℕ)) (s c k d : ℕ) (b : Bool) → Line log seats all t (Leave k) x y passing passed
    → s < seats → get_or passing s None ≡ Some d → waits_in log k d ≡ b
    → (if b then Some d else get_or passed s None) ≡ Some c → IsPassed log (all ++ t ∷ []) (length all + 1) s c
leaves_passed log seats all t x y passing passed s c k d true it lt may waits h =
    let old = it.was.may s d lt may in
    let woken = it.moves.still s d (still_passing log seats all x passing passed s d it.was old)
    (λ takes. absurd (false≢true takes)) in
    subst (λ e. IsPassed log (all ++ t ∷ []) (length all + 1) s e) (some_some d c h)
    (passed_now log all t y s d k old it.leads woken it.is (leaver log seats all t x y passing passed s d k old it)
    waits)
leaves_passed log seats all t x y passing passed s c k d false it lt may waits h =
    stays_passed log seats all t (Leave k) x y passing passed s c it lt (λ takes. absurd (false≢true takes)) h

leave_passed : (log : List LogLine) (seats : ℕ) (all : List Moment) (t : Moment) (x y : State)
    (passing passed : List (Option ℕ)) (s c k : ℕ) (may : Option ℕ) → Line log seats all t (Leave k) x y passing passed
    → s < seats → get_or passing s None ≡ may → marked log k may (get_or passed s None) ≡ Some c
    → IsPassed log (all ++ t ∷ []) (length all + 1) s c
leave_passed log seats all t x y passing passed s c k may it lt h h' =
    grind (arith, nat_tests, stays_passed, false≢true, leaves_passed)

-- a thread takes the lock
take_passed : (log : List LogLine) (seats : ℕ) (all : List Moment) (t : Moment) (l : LogLine) (x y : State)
    (passing passed : List (Option ℕ)) (s c : ℕ) → Line log seats all t l x y passing passed → s < seats
    → unmarked (line_seat l) s (get_or passed s None) ≡ Some c → IsPassed log (all ++ t ∷ []) (length all + 1) s c
take_passed log seats all t l x y passing passed s c it lt h = grind (arith, nat_tests, unmarked_by, stays_passed)

some_next : (log : List LogLine) (seats : ℕ) (all : List Moment) (t : Moment) (l : LogLine) (x y : State)
    (passing passed : List (Option ℕ)) (s c : ℕ) → Line log seats all t l x y passing passed → s < seats
    → passed_after l log s (get_or passing s None) (get_or passed s None) ≡ Some c
    → IsPassed log (all ++ t ∷ []) (length all + 1) s c
some_next log seats all t l x y passing passed s c it lt h =
    grind (arith, nat_tests, take_passed, leave_passed, stays_passed, false≢true)

-- ---- who wasn't

-- a line that is no `leave`
not_left : (log : List LogLine) (all : List Moment) (t : Moment) (l : LogLine) (y : State) (s c : ℕ) → t.line ≡ l
    → t.behind ≡ y → ((k : ℕ) → l ≡ Leave k → ⊥) → IsPassed log (all ++ t ∷ []) (length all + 1) s c
    → IsPassed log all (length all) s c
not_left log all t l y s c is leads nope h =
    elim (passed_back log all t y s c leads h).1 as (λ z. IsPassed log all (length all) s c)
    [ inl now ↦ absurd (nope now.seat (sym is ∙ now.line)) | inr old ↦ old ]

stays_none : (log : List LogLine) (seats : ℕ) (all : List Moment) (t : Moment) (l : LogLine) (x y : State)
    (passing passed : List (Option ℕ)) (s c : ℕ) → Line log seats all t l x y passing passed → s < seats
    → ((k : ℕ) → l ≡ Leave k → ⊥) → get_or passed s None ≡ None
    → IsPassed log (all ++ t ∷ []) (length all + 1) s c → ⊥
stays_none log seats all t l x y passing passed s c it lt nope h on =
    it.was.none s c lt h (not_left log all t l y s c it.is it.leads nope on)

take_none : (log : List LogLine) (seats : ℕ) (all : List Moment) (t : Moment) (l : LogLine) (x y : State)
    (passing passed : List (Option ℕ)) (s c : ℕ) → Line log seats all t l x y passing passed → s < seats
    → takes_lock l ≡ true → unmarked (line_seat l) s (get_or passed s None) ≡ None
    → IsPassed log (all ++ t ∷ []) (length all + 1) s c → ⊥
take_none log seats all t l x y passing passed s c it lt takes h on =
    elim (unmarked_none (line_seat l) s (get_or passed s None) (s == line_seat l) refl h) as (λ z. ⊥) [
      | inl own ↦
          let same : s ≡ line_seat l = eqb-true s (line_seat l) own in
          active_woken c ⊥ (y.place s) (ap y.place same ∙ it.moves.acts takes)
          (passed_back log all t y s c it.leads on).0
      | inr none ↦ stays_none log seats all t l x y passing passed s c it lt
          (λ k e. false≢true (sym (ap takes_lock e) ∙ takes)) none on
    ]

if_none : (b : Bool) (d : ℕ) (was : Option ℕ) → (if b then Some d else was) ≡ None → (b ≡ false) × (was ≡ None)
if_none b d was h = grind (arith, nat_tests)

leave_old : (log : List LogLine) (k : ℕ) (may was : Option ℕ) → marked log k may was ≡ None → was ≡ None
leave_old log k may was h = grind (arith, nat_tests)

leave_same : (k j : ℕ) → Leave k ≡ Leave j → k ≡ j
leave_same k j h = cc

-- if it may be passed, the leaver doesn't wait there
leave_now : (log : List LogLine) (seats : ℕ) (all : List Moment) (t : Moment) (x y : State)
    (passing passed : List (Option ℕ)) (s c k : ℕ) (may : Option ℕ) → Line log seats all t (Leave k) x y passing passed
    → s < seats → get_or passing s None ≡ may → marked log k may (get_or passed s None) ≡ None
    → LeavesNow log all t s c → ⊥
leave_now log seats all t x y passing passed s c k None it lt may h now = it.was.may_not s c lt may now.old
leave_now log seats all t x y passing passed s c k (Some d) it lt may h now =
    let one = still_passing log seats all x passing passed s d it.was (it.was.may s d lt may) in
    let two = still_passing log seats all x passing passed s c it.was now.old in
    let same : c ≡ d = woken_same c d (sym two ∙ one) in
    let seat : now.seat ≡ k = leave_same now.seat k (sym now.line ∙ it.is) in
    grind (arith, nat_tests, false≢true, if_none)

leave_none : (log : List LogLine) (seats : ℕ) (all : List Moment) (t : Moment) (x y : State)
    (passing passed : List (Option ℕ)) (s c k : ℕ) → Line log seats all t (Leave k) x y passing passed
    → s < seats → marked log k (get_or passing s None) (get_or passed s None) ≡ None
    → IsPassed log (all ++ t ∷ []) (length all + 1) s c → ⊥
leave_none log seats all t x y passing passed s c k it lt h on =
    elim (passed_back log all t y s c it.leads on).1 as (λ z. ⊥) [
      | inl now ↦ leave_now log seats all t x y passing passed s c k (get_or passing s None) it lt refl h now
      | inr old ↦ it.was.none s c lt (leave_old log k (get_or passing s None) (get_or passed s None) h) old
    ]

left_by_wait : (s c k : ℕ) → Wait s c ≡ Leave k → ⊥
left_by_wait s c k h = cc

left_by_signal : (s c k : ℕ) → Signal s c ≡ Leave k → ⊥
left_by_signal s c k h = cc

left_by_broadcast : (s c k : ℕ) → Broadcast s c ≡ Leave k → ⊥
left_by_broadcast s c k h = cc

left_by_until : (s p k : ℕ) → Until s p ≡ Leave k → ⊥
left_by_until s p k h = cc

left_by_act : (s : ℕ) (op : Op) (r k : ℕ) → Act s op r ≡ Leave k → ⊥
left_by_act s op r k h = cc

none_next : (log : List LogLine) (seats : ℕ) (all : List Moment) (t : Moment) (l : LogLine) (x y : State)
    (passing passed : List (Option ℕ)) (s c : ℕ) → Line log seats all t l x y passing passed → s < seats
    → passed_after l log s (get_or passing s None) (get_or passed s None) ≡ None
    → IsPassed log (all ++ t ∷ []) (length all + 1) s c → ⊥
none_next log seats all t (Enter k) x y passing passed s c it lt h on =
    take_none log seats all t (Enter k) x y passing passed s c it lt refl h on
none_next log seats all t (Resume k) x y passing passed s c it lt h on =
    take_none log seats all t (Resume k) x y passing passed s c it lt refl h on
none_next log seats all t (Lapse k) x y passing passed s c it lt h on =
    take_none log seats all t (Lapse k) x y passing passed s c it lt refl h on
none_next log seats all t (Leave k) x y passing passed s c it lt h on =
    leave_none log seats all t x y passing passed s c k it lt h on
none_next log seats all t (Wait k d) x y passing passed s c it lt h on =
    stays_none log seats all t (Wait k d) x y passing passed s c it lt (left_by_wait k d) h on
none_next log seats all t (Signal k d) x y passing passed s c it lt h on =
    stays_none log seats all t (Signal k d) x y passing passed s c it lt (left_by_signal k d) h on
none_next log seats all t (Broadcast k d) x y passing passed s c it lt h on =
    stays_none log seats all t (Broadcast k d) x y passing passed s c it lt (left_by_broadcast k d) h on
none_next log seats all t (Until k p) x y passing passed s c it lt h on =
    stays_none log seats all t (Until k p) x y passing passed s c it lt (left_by_until k p) h on
none_next log seats all t (Act k op r) x y passing passed s c it lt h on =
    stays_none log seats all t (Act k op r) x y passing passed s c it lt (left_by_act k op r) h on

-- ---- all that is known after the line

lock_next : (all : List Moment) (t : Moment) (l : LogLine) (x y : State) (by : ℕ) → t.line ≡ l → Moves x l y
    → ((k : ℕ) → Alone all (length all) k → (x.lock ≡ None) ⊎ (x.lock ≡ Some (seat_at all k)))
    → Alone (all ++ t ∷ []) (length all + 1) by → (y.lock ≡ None) ⊎ (y.lock ≡ Some (seat_at (all ++ t ∷ []) by))
lock_next all t l x y by is moves was h =
    let last = moment_last all t in
    elim (here_or_below by (length all) h.within) as
    (λ z. (y.lock ≡ None) ⊎ (y.lock ≡ Some (seat_at (all ++ t ∷ []) by))) [
      | inl now ↦ grind (arith, nat_tests)
      | inr less ↦ grind (arith, nat_tests, seat_kept, moment_kept)
    ]

last_next : (all : List Moment) (t : Moment) (y : State) (k : ℕ) → t.behind ≡ y → k + 1 ≡ length (all ++ t ∷ [])
    → (moment (all ++ t ∷ []) k).behind ≡ y
last_next all t y k leads h =
    let same : k ≡ length all = let many = more_many all t in omega arith in
    ap (λ j. (moment (all ++ t ∷ []) j).behind) same ∙ ap (λ z. z.behind) (moment_last all t) ∙ leads

pub marks_next : (log : List LogLine) (seats : ℕ) (all : List Moment) (t : Moment) (l : LogLine) (x y : State)
    (passing passed newer new : List (Option ℕ)) → t.line ≡ l → t.behind ≡ y → Moves x l y
    → Marks log seats all x passing passed → MarksMore log seats l y passing passed newer new
    → Marks log seats (all ++ t ∷ []) y newer new
marks_next log seats all t l x y passing passed newer new is leads moves was does =
    let many = more_many all t in
    let it : Line log seats all t l x y passing passed = grind (arith, nat_tests) in
    record {
      may = grind (arith, nat_tests, IsPassing, open_next);
      may_not = λ s c lt h on. closed_next log seats all t l x y passing passed s c it lt (sym (does.may s lt) ∙ h)
          (subst (λ n. IsPassing (all ++ t ∷ []) n s c) many on);
      some = grind (arith, nat_tests, some_next);
      none = λ s c lt h on. none_next log seats all t l x y passing passed s c it lt (sym (does.some s lt) ∙ h)
          (subst (λ n. IsPassed log (all ++ t ∷ []) n s c) many on);
      last = λ k h. last_next all t y k leads h;
      lock = λ by h. lock_next all t l x y by is moves was.lock (subst (λ n. Alone (all ++ t ∷ []) n by) many h);
    }

pub marks_opening : (log : List LogLine) (seats : ℕ) (x : State) (passing passed : List (Option ℕ))
    → ((j : ℕ) → j < seats → get_or passing j None ≡ None) → ((j : ℕ) → j < seats → get_or passed j None ≡ None)
    → Marks log seats [] x passing passed
marks_opening log seats x passing passed nobody none = record {
  may = λ s c lt h. absurd (some_none c ⊥ (sym h ∙ nobody s lt));
  may_not = λ s c lt h on. absurd (let z = on.visit.before in omega arith);
  some = λ s c lt h. absurd (some_none c ⊥ (sym h ∙ none s lt));
  none = λ s c lt h on. absurd (let z = on.before in omega arith);
  last = λ k h. absurd (omega arith);
  lock = λ by h. absurd (let z = h.within in omega arith);
}

-- ---- who comes back

seat_last : (all : List Moment) (t : Moment) (l : LogLine) → t.line ≡ l
    → seat_at (all ++ t ∷ []) (length all) ≡ line_seat l
seat_last all t l is = ap (λ k. line_seat k.line) (moment_last all t) ∙ ap line_seat is

pub told_by : (l : LogLine) (seats : List (Option ℕ)) (c : ℕ) (b : Bool) → takes_lock l ≡ b → passed_of l seats ≡ Some c
    → (takes_lock l ≡ true) × (get_or seats (line_seat l) None ≡ Some c)
told_by l seats c b e h = grind (arith, nat_tests)

pub comes_overtaken : (log : List LogLine) (seats : ℕ) (all : List Moment) (t : Moment) (l : LogLine) (x y : State)
    (passing passed : List (Option ℕ)) (c : ℕ) → t.line ≡ l → Moves x l y → Marks log seats all x passing passed
    → line_seat l < seats → passed_of l passed ≡ Some c → IsOvertakenOn log (all ++ t ∷ []) c (length all)
comes_overtaken log seats all t l x y passing passed c is moves was lt h =
    let parts = told_by l passed c (takes_lock l) refl h in
    let old = was.some (line_seat l) c lt parts.1 in
    record {
      back = ap (λ k. is_resume k.line) (moment_last all t) ∙ ap is_resume is
          ∙ moves.back parts.0 c (still_woken log seats all x passing passed (line_seat l) c was old);
      passed = grind (arith, nat_tests, seat_last, passed_kept);
    }

pub resume_takes : (l : LogLine) → is_resume l ≡ true → takes_lock l ≡ true
resume_takes l h = grind (arith, nat_tests)

pub comes_otherwise : (log : List LogLine) (seats : ℕ) (all : List Moment) (t : Moment) (l : LogLine) (x : State)
    (passing passed : List (Option ℕ)) → t.line ≡ l → Marks log seats all x passing passed → line_seat l < seats
    → passed_of l passed ≡ None → IsOvertaken log (all ++ t ∷ []) (length all) → ⊥
comes_otherwise log seats all t l x passing passed is was lt h over =
    let back : is_resume l ≡ true = grind (arith, nat_tests, moment_last) in
    let none : get_or passed (line_seat l) None ≡ None = grind (arith, nat_tests, resume_takes) in
    was.none (line_seat l) over.cond lt none
    (subst (λ s. IsPassed log all (length all) s over.cond) (seat_last all t l is)
    ((passed_kept log all t (length all) (seat_at (all ++ t ∷ []) (length all)) over.cond (omega arith)).1
    over.on.passed))
