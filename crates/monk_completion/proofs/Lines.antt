-- The lines that have been judged so far, with the events that they showed
use Rattle.std.proofs.Common.{arith, ◌≡◌, ℕ, ◌+◌, ◌<◌, ◌≤◌, List, [], length, get_or, take, drop, ◌++◌, ◌∷◌, refl, sym, ap, subst, ◌∙◌}
use Rattle.std.proofs.lemmas.Bool.Decides.{nat_tests}
use Rattle.std.proofs.lemmas.List.{at_drop_all, at_drop_more, take_all, take_more}
use Rattle.std.specs.Prelude.{Result, Ok, Err, OnOk}
use Rattle.monk_kinds.specs.{Kind.IsKind, declared.mode.Rules.Rules}
use Rattle.monk_object.specs.Object.{Object}
use Rattle.monk_history.specs.{declared.event.Event.Event, Meaning.Monitor.Monitor, Meaning.Monitor.monitor}
use Rattle.monk_history.specs.{Meaning.Reasons.reason_in, Meaning.Situation.Situation, Meaning.Step.opening_situation}
use Rattle.monk_logs.specs.declared.text.line.LogLine.{LogLine}
use Rattle.monk_logs.specs.declared.text.line.LogLine.TheVariants.{Enter, Resume, Lapse, Leave, Wait, Signal, Broadcast}
use Rattle.monk_logs.specs.declared.text.line.LogLine.TheVariants.{Until, Act}
use Rattle.monk_completion.proofs.Endings.{tells_completes}
use Rattle.monk_completion.proofs.Soundness.{TellsAt, tells_nothing, tells_on}
use Rattle.monk_completion.specs.{Completion.Completes, Ending.last_events, Events.told_events}
use Rattle.monk_completion.specs.Stand.{Stand, line_behind, line_half, line_over, line_settled, line_told, settle}
use Rattle.monk_completion.specs.Stand.{stand, stand_or, verdict_from, verdict_on}
use Rattle.monk_completion.specs.declared.pending.Pending.{Pending, TheVariants.Settled}
use Rattle.monk_completion.specs.declared.blame.Blame.{Blame}
use Rattle.monk_completion.specs.declared.verdict.LogVerdict.TheVariants.{Fits, Misfit}

-- ---- the judging of lines doesn't depend on the object's opening state

module _ (k : Rules) (seats conds : ℕ) (o : Object) (d : List ℕ) where
  settle_apart : (t : Situation) (e : Event)
      → settle (monitor k seats conds o []) t e ≡ settle (monitor k seats conds o d) t e
  unfolding reason_in
  settle_apart t e = refl

  settled_apart : (t : Situation) (l : LogLine)
      → line_settled (monitor k seats conds o []) t l ≡ line_settled (monitor k seats conds o d) t l
  settled_apart t (Enter s) = settle_apart t _
  settled_apart t (Resume s) = settle_apart t _
  settled_apart t (Lapse s) = refl
  settled_apart t (Leave s) = refl
  settled_apart t (Wait s c) = refl
  settled_apart t (Signal s c) = refl
  settled_apart t (Broadcast s c) = settle_apart t _
  settled_apart t (Until s p) = refl
  settled_apart t (Act s op r) = settle_apart t _

  half_apart : (t : Situation) (s c : ℕ) (l : LogLine)
      → line_half (monitor k seats conds o []) t s c l ≡ line_half (monitor k seats conds o d) t s c l
  half_apart t s c l = grind arith

  told_apart : (t : Situation) (e : Event) (l : LogLine)
      → line_told (monitor k seats conds o []) t e l ≡ line_told (monitor k seats conds o d) t e l
  unfolding reason_in
  told_apart t e l = grind arith

  line_apart : (t : Situation) (p : Pending) (l : LogLine)
      → line_behind (monitor k seats conds o []) t p l ≡ line_behind (monitor k seats conds o d) t p l
  line_apart t p l = grind (arith, nat_tests, settled_apart, half_apart, told_apart)

-- ---- line by line

-- the first `i` lines led there, and these are the events that they showed
pub record Follows (m : Monitor) (lines : List LogLine) (i : ℕ) (t : Situation) (p : Pending) (past : List Event)
    : Type 0
  where
    pub so_far : verdict_from m i (Ok (stand t p)) (drop i lines) ≡ verdict_on m lines
    pub at : TellsAt m (take i lines) past (stand t p)

pub opens : (m : Monitor) (lines : List LogLine) (t : Situation) → t ≡ opening_situation m
    → Follows m lines 0 t Settled []
opens m lines t is =
    subst (λ (u : Situation). Follows m lines 0 u Settled []) (sym is)
    (record { so_far = refl; at = tells_nothing m })

from_more : (m : Monitor) (n : ℕ) (s : Stand) (l : LogLine) (rest : List LogLine)
    → verdict_from m n (Ok s) (l ∷ rest) ≡ verdict_from m (n + 1) (line_over m s l) rest
unfolding verdict_from
from_more m n s l rest = refl

from_err : (m : Monitor) (n : ℕ) (why : Blame) (rest : List LogLine) → verdict_from m n (Err why) rest ≡ Misfit n why
unfolding verdict_from
from_err m n why rest = refl

from_end : (m : Monitor) (n : ℕ) (s : Stand) → verdict_from m n (Ok s) [] ≡ Fits
unfolding verdict_from
from_end m n s = refl

module _ (k : Rules) (seats conds : ℕ) (o : Object) (d : List ℕ) (lines : List LogLine) (i : ℕ) (t : Situation)
    (p : Pending) (past : List Event)
    (c : Follows (monitor k seats conds o d) lines i t p past)
  where
    module _ (l : LogLine) (u : Situation) (r : Result Pending Blame) (within : i < length lines)
        (judged : stand_or u r ≡ line_behind (monitor k seats conds o []) t p (get_or lines i l))
      where
        leads_to : stand_or u r ≡ line_over (monitor k seats conds o d) (stand t p) (get_or lines i l)
        leads_to = judged ∙ line_apart k seats conds o d t p (get_or lines i l)

        goes_on : verdict_from (monitor k seats conds o d) (i + 1) (stand_or u r) (drop (i + 1) lines)
            ≡ verdict_on (monitor k seats conds o d) lines
        goes_on =
            let m = monitor k seats conds o d in
            ap (λ (x : Result Stand Blame). verdict_from m (i + 1) x (drop (i + 1) lines)) leads_to
            ∙ sym (from_more m i (stand t p) (get_or lines i l) (drop (i + 1) lines))
            ∙ sym (at_drop_more (verdict_from m i (Ok (stand t p))) lines i l within) ∙ c.so_far

        pub goes : (q : Pending) (new : List Event) → r ≡ Ok q
            → OnOk r (new ≡ past ++ told_events o t p (get_or lines i l))
            → Follows (monitor k seats conds o d) lines (i + 1) u q new
        goes q new is told =
            let m = monitor k seats conds o d in
            let n = get_or lines i l in
            record {
              so_far =
                  subst (λ (x : Result Pending Blame). verdict_from m (i + 1) (stand_or u x) (drop (i + 1) lines)
                  ≡ verdict_on m lines) is goes_on;
              at =
                  subst (λ (front : List LogLine). TellsAt m front new (stand u q)) (sym (take_more lines i l within))
                  (subst (λ (x : List Event). TellsAt m (take i lines ++ n ∷ []) x (stand u q))
                  (sym (subst (λ (x : Result Pending Blame). OnOk x (new ≡ past ++ told_events o t p n)) is told))
                  (tells_on m (take i lines) past (stand t p) n (stand u q) c.at
                  (sym leads_to ∙ ap (stand_or u) is)));
            }

        pub misfits : (why : Blame) → r ≡ Err why → Misfit (i + 1) why ≡ verdict_on (monitor k seats conds o d) lines
        misfits why is =
            let m = monitor k seats conds o d in
            sym (from_err m (i + 1) why (drop (i + 1) lines))
            ∙ subst (λ (x : Result Pending Blame). verdict_from m (i + 1) (stand_or u x) (drop (i + 1) lines)
            ≡ verdict_on m lines) is goes_on

    -- ---- after the last line

    module _ (past_all : length lines ≤ i) where
      pub fits : Fits ≡ verdict_on (monitor k seats conds o d) lines
      fits =
          let m = monitor k seats conds o d in
          sym (from_end m i (stand t p)) ∙ sym (at_drop_all (verdict_from m i (Ok (stand t p))) lines i past_all)
          ∙ c.so_far

      pub ends : (new : List Event) → IsKind k → new ≡ past ++ last_events k o t p
          → Completes (monitor k seats conds o d) lines new
      ends new kind told =
          let m = monitor k seats conds o d in
          subst (Completes m lines) (sym told)
          (subst (λ (log : List LogLine). Completes m log (past ++ last_events k o t p)) (take_all i lines past_all)
          (subst (λ (u : Situation). Completes m (take i lines) (past ++ last_events k o u p)) c.at.stands
          (tells_completes m (take i lines) past p kind c.at.tells)))
