-- The next line of a thread that came back overtaken, after one more line
use Rattle.std.proofs.Common.{◌≡◌, ℕ, ◌<◌, List, [], ◌∷◌, ◌++◌, length, sym, ap, arith, ◌∙◌}
use Rattle.std.proofs.lemmas.Bool.Decides.{nat_tests}
use Rattle.monk_logs.specs.{Log.line_seat, declared.text.line.LogLine.LogLine}
use Rattle.monk_judge.proofs.{Among.SameBelow, Among.here_or_below, Missing.more_many, Moments.moment_kept}
use Rattle.monk_judge.proofs.{Moments.moment_last, Visits.passed_kept, Visits.seat_kept}
use Rattle.monk_judge.specs.Overtaken.{GoesOnBy, IsNext, IsOvertaken, IsOvertakenOn, WaitsAgain, is_refused, seat_at}
use Rattle.monk_judge.specs.Moments.{Moment, moment}

-- ---- the lines before, after one more line

pub on_kept : (log : List LogLine) (all : List Moment) (t : Moment) (c k : ℕ) → k < length all
    → (IsOvertakenOn log all c k → IsOvertakenOn log (all ++ t ∷ []) c k)
    × (IsOvertakenOn log (all ++ t ∷ []) c k → IsOvertakenOn log all c k)
on_kept log all t c k lt = grind (arith, nat_tests, moment_kept, passed_kept, seat_kept)

pub overtaken_kept : (log : List LogLine) (all : List Moment) (t : Moment) → SameBelow (λ k. IsOvertaken log all k)
    (λ k. IsOvertaken log (all ++ t ∷ []) k) (length all)
overtaken_kept log all t k lt = (
  λ h. record { cond = h.cond; on = (on_kept log all t h.cond k lt).0 h.on },
  λ h. record { cond = h.cond; on = (on_kept log all t h.cond k lt).1 h.on },
)

pub goes_by : (l m : LogLine) (s r : ℕ) → l ≡ m → s ≡ r → GoesOnBy l s → GoesOnBy m r
goes_by l m s r line seat h = (sym (ap line_seat line) ∙ h.0 ∙ seat, sym (ap is_refused line) ∙ h.1)

pub goes_kept : (all : List Moment) (t : Moment) (i k : ℕ) → i < length all → k < length all
    → (GoesOnBy (moment all i).line (seat_at all k) → GoesOnBy (moment (all ++ t ∷ []) i).line
    (seat_at (all ++ t ∷ []) k))
    × (GoesOnBy (moment (all ++ t ∷ []) i).line (seat_at (all ++ t ∷ []) k)
    → GoesOnBy (moment all i).line (seat_at all k))
goes_kept all t i k near lt = grind (arith, nat_tests, moment_kept, seat_kept)

-- it was woken on one condition
pub cond_same : (log : List LogLine) (all : List Moment) (k c d : ℕ) → IsOvertakenOn log all c k
    → IsOvertakenOn log all d k → c ≡ d
cond_same log all k c d h g = grind (arith, nat_tests)

pub next_kept : (all : List Moment) (t : Moment) (k j : ℕ) → IsNext all k j → IsNext (all ++ t ∷ []) k j
next_kept all t k j h =
    let lt : k < length all = let a = h.behind in let b = h.within in omega arith in
    record {
      behind = h.behind;
      within = let a = h.within in let b = more_many all t in omega arith;
      same = (goes_kept all t j k h.within lt).0 h.same;
      none = λ i from less same.
          let near : i < length all = let b = h.within in omega arith in
          h.none i from less ((goes_kept all t i k near lt).1 same);
    }

next_back : (all : List Moment) (t : Moment) (k j : ℕ) → j < length all → IsNext (all ++ t ∷ []) k j → IsNext all k j
next_back all t k j within h =
    let lt : k < length all = let a = h.behind in omega arith in
    record {
      behind = h.behind;
      within = within;
      same = (goes_kept all t j k within lt).1 h.same;
      none = grind (arith, nat_tests, goes_kept);
    }

pub again_more : (log : List LogLine) (all : List Moment) (t : Moment) (k : ℕ) → k < length all → WaitsAgain log all k
    → WaitsAgain log (all ++ t ∷ []) k
again_more log all t k lt h = record {
  cond = h.cond;
  on = (on_kept log all t h.cond k lt).0 h.on;
  at = h.at;
  next = next_kept all t k h.at h.next;
  waits = grind (arith, nat_tests, moment_kept, seat_kept);
}

pub again_back : (log : List LogLine) (all : List Moment) (t : Moment) (k : ℕ) → k < length all
    → (again : WaitsAgain log (all ++ t ∷ []) k) → again.at < length all → WaitsAgain log all k
again_back log all t k lt h within = record {
  cond = h.cond;
  on = (on_kept log all t h.cond k lt).1 h.on;
  at = h.at;
  next = next_back all t k h.at within h.next;
  waits = grind (arith, nat_tests, moment_kept, seat_kept);
}

-- the thread has gone on since
pub record HasNext (all : List Moment) (k : ℕ) : Type 0 where
  pub at : ℕ
  pub next : IsNext all k at

-- if so, one more line changes nothing
pub again_if_next : (log : List LogLine) (all : List Moment) (t : Moment) (k : ℕ) → k < length all → HasNext all k
    → (again : WaitsAgain log (all ++ t ∷ []) k) → again.at < length all
again_if_next log all t k lt has again = grind (arith, nat_tests, here_or_below, more_many, goes_kept)

pub at_last : (all : List Moment) (t : Moment) (l : LogLine) (j : ℕ) → t.line ≡ l → j ≡ length all
    → (moment (all ++ t ∷ []) j).line ≡ l
at_last all t l j is last = ap (λ k. (moment (all ++ t ∷ []) k).line) last ∙ ap (λ z. z.line) (moment_last all t) ∙ is
