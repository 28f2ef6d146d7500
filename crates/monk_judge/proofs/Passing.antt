-- Which woken threads were passed, after one more line
use Rattle.std.proofs.Common.{◌≡◌, ℕ, ◌+◌, ◌<◌, ◌≤◌, ◌==◌, ◌⊎◌, inl, inr, Bool, true, false, List, [], ◌∷◌, ◌++◌, Option, Some, None, length, get_or, if◌then◌else◌, refl, sym, ap, arith, ◌∙◌}
use Rattle.std.proofs.lemmas.Bool.{cases_Bool, false≢true, Decides.nat_tests}
use Rattle.monk_logs.specs.declared.text.line.LogLine.{LogLine}
use Rattle.monk_logs.specs.declared.text.line.LogLine.TheVariants.{Enter, Resume, Lapse, Leave, Wait, Signal, Broadcast}
use Rattle.monk_logs.specs.declared.text.line.LogLine.TheVariants.{Until, Act}
use Rattle.monk_logs.specs.LastLine.{signals_to}
use Rattle.monk_judge.proofs.Visits.{IsPassing, passing_back, passing_more, passing_now}
use Rattle.monk_judge.proofs.Moves.{Moves}
use Rattle.monk_judge.specs.{Holding.takes_lock, Overtaken.IsPassed, Overtaken.seat_at, Run.State, Moments.Moment}
use Rattle.monk_judge.specs.{Moments.moment, declared.place.Place.Place, declared.place.Place.TheVariants.Woken}
use Rattle.monk_judge.specs.Hints.{other_than, passed_after, passing_after, woken_on}

-- ---- what the tables say of one seat

pub some_none : (d : ℕ) (A : Type 0) → Some d ≡ None → A
some_none d A h = cc

pub some_some : (d c : ℕ) → Some d ≡ Some c → d ≡ c
some_some d c h = cc

pub woken_same : (c d : ℕ) → Woken c ≡ Woken d → c ≡ d
woken_same c d e = cc

woken_some : (p : Place) (c : ℕ) → woken_on p ≡ Some c → p ≡ Woken c
woken_some p c h = grind (arith, nat_tests)

woken_none : (p : Place) (c : ℕ) → woken_on p ≡ None → p ≡ Woken c → ⊥
woken_none p c h e = some_none c ⊥ (sym (ap woken_on e) ∙ h)

other_some : (d c : ℕ) (was : Option ℕ) → other_than d was ≡ Some c → (was ≡ Some c) × ((d == c) ≡ false)
other_some d c was h = grind (arith, nat_tests)

gone_by : (d e : ℕ) (b : Bool) → (e == d) ≡ b → (if b then None else Some e) ≡ None → (e == d) ≡ true
gone_by d e b is h = grind (arith, nat_tests)

pub unmarked_by : (s j c : ℕ) (was : Option ℕ) (b : Bool) → (j == s) ≡ b → (if b then None else was) ≡ Some c
    → (j ≡ s → ⊥) × (was ≡ Some c)
unmarked_by s j c was b e h = grind (arith, nat_tests)

pub unmarked_none : (s j : ℕ) (was : Option ℕ) (b : Bool) → (j == s) ≡ b → (if b then None else was) ≡ None
    → ((j == s) ≡ true) ⊎ (was ≡ None)
unmarked_none s j was b e h = grind (arith, nat_tests)

-- ---- what holds of the tables

-- who came in last, as long as nobody else has
pub record Alone (all : List Moment) (n by : ℕ) : Type 0 where
  pub within : by < n
  pub takes : takes_lock (moment all by).line ≡ true
  pub alone : (i : ℕ) → by < i → i < n → takes_lock (moment all i).line ≡ false

-- for each seat that the visit in progress may overtake, and for each that was passed, the condition on which it was
-- woken is kept
pub record Marks (log : List LogLine) (seats : ℕ) (all : List Moment) (x : State)
    (passing passed : List (Option ℕ)) : Type 0 where
  pub may : (s c : ℕ) → s < seats → get_or passing s None ≡ Some c → IsPassing all (length all) s c
  pub may_not : (s c : ℕ) → s < seats → get_or passing s None ≡ None → IsPassing all (length all) s c → ⊥
  pub some : (s c : ℕ) → s < seats → get_or passed s None ≡ Some c → IsPassed log all (length all) s c
  pub none : (s c : ℕ) → s < seats → get_or passed s None ≡ None → IsPassed log all (length all) s c → ⊥
  pub last : (k : ℕ) → k + 1 ≡ length all → (moment all k).behind ≡ x
  pub lock : (by : ℕ) → Alone all (length all) by → (x.lock ≡ None) ⊎ (x.lock ≡ Some (seat_at all by))

-- what the program does with a line
pub record MarksMore (log : List LogLine) (seats : ℕ) (l : LogLine) (y : State)
    (passing passed newer new : List (Option ℕ)) : Type 0 where
  pub may : (j : ℕ) → j < seats → get_or newer j None ≡ passing_after l (y.place j) (get_or passing j None)
  pub some : (j : ℕ) → j < seats
      → get_or new j None ≡ passed_after l log j (get_or passing j None) (get_or passed j None)

-- a thread that was passed, or may be, is still woken
still_by : (all : List Moment) (x : State) (s c by : ℕ) → ((k : ℕ) → k + 1 ≡ length all → (moment all k).behind ≡ x)
    → by < length all → ((i : ℕ) → by ≤ i → i < length all → (moment all i).behind.place s ≡ Woken c)
    → x.place s ≡ Woken c
still_by all x s c by last lt woken = grind (arith, nat_tests)

pub still_woken : (log : List LogLine) (seats : ℕ) (all : List Moment) (x : State) (passing passed : List (Option ℕ))
    (s c : ℕ) → Marks log seats all x passing passed → IsPassed log all (length all) s c → x.place s ≡ Woken c
still_woken log seats all x passing passed s c was h = grind (arith, nat_tests)

pub still_passing : (log : List LogLine) (seats : ℕ) (all : List Moment) (x : State) (passing passed : List (Option ℕ))
    (s c : ℕ) → Marks log seats all x passing passed → IsPassing all (length all) s c → x.place s ≡ Woken c
still_passing log seats all x passing passed s c was h = still_by all x s c h.by was.last h.visit.before h.woken

-- one line more, with all that is known of it
pub record Line (log : List LogLine) (seats : ℕ) (all : List Moment) (t : Moment) (l : LogLine) (x y : State)
    (passing passed : List (Option ℕ)) : Type 0 where
  pub is : t.line ≡ l
  pub leads : t.behind ≡ y
  pub moves : Moves x l y
  pub was : Marks log seats all x passing passed

-- ---- whom the visit may overtake

-- a line that takes no lock, and is no signal to the condition
stays_open : (log : List LogLine) (seats : ℕ) (all : List Moment) (t : Moment) (l : LogLine) (x y : State)
    (passing passed : List (Option ℕ)) (s c : ℕ) → Line log seats all t l x y passing passed → s < seats
    → takes_lock l ≡ false → signals_to c l ≡ false → get_or passing s None ≡ Some c
    → IsPassing (all ++ t ∷ []) (length all + 1) s c
stays_open log seats all t l x y passing passed s c it lt free quiet h =
    let old = it.was.may s c lt h in
    let woken = it.moves.still s c (still_passing log seats all x passing passed s c it.was old)
    (λ takes. absurd (false≢true (sym free ∙ takes))) in
    passing_more all t y s c it.leads woken (ap takes_lock it.is ∙ free) (ap (signals_to c) it.is ∙ quiet) old

pub open_next : (log : List LogLine) (seats : ℕ) (all : List Moment) (t : Moment) (l : LogLine) (x y : State)
    (passing passed : List (Option ℕ)) (s c : ℕ) → Line log seats all t l x y passing passed → s < seats
    → passing_after l (y.place s) (get_or passing s None) ≡ Some c → IsPassing (all ++ t ∷ []) (length all + 1) s c
open_next log seats all t (Enter k) x y passing passed s c it lt h =
    passing_now all t y s c k it.leads (woken_some (y.place s) c h) it.is
open_next log seats all t (Resume k) x y passing passed s c it lt h = some_none c _ (sym h)
open_next log seats all t (Lapse k) x y passing passed s c it lt h = some_none c _ (sym h)
open_next log seats all t (Leave k) x y passing passed s c it lt h =
    stays_open log seats all t (Leave k) x y passing passed s c it lt refl refl h
open_next log seats all t (Wait k d) x y passing passed s c it lt h =
    stays_open log seats all t (Wait k d) x y passing passed s c it lt refl refl h
open_next log seats all t (Signal k d) x y passing passed s c it lt h =
    let parts = other_some d c (get_or passing s None) h in
    stays_open log seats all t (Signal k d) x y passing passed s c it lt refl parts.1 parts.0
open_next log seats all t (Broadcast k d) x y passing passed s c it lt h =
    let parts = other_some d c (get_or passing s None) h in
    stays_open log seats all t (Broadcast k d) x y passing passed s c it lt refl parts.1 parts.0
open_next log seats all t (Until k p) x y passing passed s c it lt h =
    stays_open log seats all t (Until k p) x y passing passed s c it lt refl refl h
open_next log seats all t (Act k op r) x y passing passed s c it lt h =
    stays_open log seats all t (Act k op r) x y passing passed s c it lt refl refl h

-- a line with which nobody comes in
not_in : (all : List Moment) (t : Moment) (l : LogLine) (y : State) (s c : ℕ) → t.line ≡ l → t.behind ≡ y
    → ((k : ℕ) → l ≡ Enter k → ⊥) → IsPassing (all ++ t ∷ []) (length all + 1) s c
    → IsPassing all (length all) s c × (takes_lock l ≡ false) × (signals_to c l ≡ false)
not_in all t l y s c is leads nope h =
    elim (passing_back all t y s c leads h).1 as
    (λ z. IsPassing all (length all) s c × (takes_lock l ≡ false) × (signals_to c l ≡ false)) [
      | inl now ↦ absurd (nope now.seat (sym is ∙ now.line))
      | inr on ↦ (on.old, sym (ap takes_lock is) ∙ on.free, sym (ap (signals_to c) is) ∙ on.quiet)
    ]

stays_closed : (log : List LogLine) (seats : ℕ) (all : List Moment) (t : Moment) (l : LogLine) (x y : State)
    (passing passed : List (Option ℕ)) (s c : ℕ) → Line log seats all t l x y passing passed → s < seats
    → takes_lock l ≡ false → get_or passing s None ≡ None → IsPassing (all ++ t ∷ []) (length all + 1) s c → ⊥
stays_closed log seats all t l x y passing passed s c it lt free h on =
    let old = not_in all t l y s c it.is it.leads (λ k e. false≢true (sym free ∙ ap takes_lock e)) on in
    it.was.may_not s c lt h old.0

apart_by : (d e c : ℕ) → e ≡ c → (e == d) ≡ true → (d == c) ≡ false → ⊥
apart_by d e c same gone apart = grind arith

closed_by : (log : List LogLine) (seats : ℕ) (all : List Moment) (t : Moment) (l : LogLine) (x y : State)
    (passing passed : List (Option ℕ)) (s c d : ℕ) (was : Option ℕ) → Line log seats all t l x y passing passed
    → s < seats → takes_lock l ≡ false → ((e : ℕ) → signals_to e l ≡ (d == e)) → get_or passing s None ≡ was
    → other_than d was ≡ None → IsPassing (all ++ t ∷ []) (length all + 1) s c → ⊥
closed_by log seats all t l x y passing passed s c d None it lt free signals is h on =
    stays_closed log seats all t l x y passing passed s c it lt free is on
closed_by log seats all t l x y passing passed s c d (Some e) it lt free signals is h on =
    let old = not_in all t l y s c it.is it.leads (λ k z. false≢true (sym free ∙ ap takes_lock z)) on in
    let one = still_passing log seats all x passing passed s e it.was (it.was.may s e lt is) in
    let two = still_passing log seats all x passing passed s c it.was old.0 in
    let same : e ≡ c = woken_same e c (sym one ∙ two) in
    let gone : (e == d) ≡ true = gone_by d e (e == d) refl h in
    grind (arith, nat_tests, cases_Bool, false≢true, apart_by)

resume_enter : (s k : ℕ) → Resume s ≡ Enter k → ⊥
resume_enter s k h = cc

lapse_enter : (s k : ℕ) → Lapse s ≡ Enter k → ⊥
lapse_enter s k h = cc

pub closed_next : (log : List LogLine) (seats : ℕ) (all : List Moment) (t : Moment) (l : LogLine) (x y : State)
    (passing passed : List (Option ℕ)) (s c : ℕ) → Line log seats all t l x y passing passed → s < seats
    → passing_after l (y.place s) (get_or passing s None) ≡ None → IsPassing (all ++ t ∷ []) (length all + 1) s c → ⊥
closed_next log seats all t (Enter k) x y passing passed s c it lt h on =
    woken_none (y.place s) c h (passing_back all t y s c it.leads on).0
closed_next log seats all t (Resume k) x y passing passed s c it lt h on =
    false≢true (sym (not_in all t (Resume k) y s c it.is it.leads (resume_enter k) on).1)
closed_next log seats all t (Lapse k) x y passing passed s c it lt h on =
    false≢true (sym (not_in all t (Lapse k) y s c it.is it.leads (lapse_enter k) on).1)
closed_next log seats all t (Leave k) x y passing passed s c it lt h on =
    stays_closed log seats all t (Leave k) x y passing passed s c it lt refl h on
closed_next log seats all t (Wait k d) x y passing passed s c it lt h on =
    stays_closed log seats all t (Wait k d) x y passing passed s c it lt refl h on
closed_next log seats all t (Signal k d) x y passing passed s c it lt h on =
    closed_by log seats all t (Signal k d) x y passing passed s c d (get_or passing s None) it lt refl (λ e. refl) refl
    h on
closed_next log seats all t (Broadcast k d) x y passing passed s c it lt h on =
    closed_by log seats all t (Broadcast k d) x y passing passed s c d (get_or passing s None) it lt refl (λ e. refl)
    refl h on
closed_next log seats all t (Until k p) x y passing passed s c it lt h on =
    stays_closed log seats all t (Until k p) x y passing passed s c it lt refl h on
closed_next log seats all t (Act k op r) x y passing passed s c it lt h on =
    stays_closed log seats all t (Act k op r) x y passing passed s c it lt refl h on
