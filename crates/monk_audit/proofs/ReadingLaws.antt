-- Judging events as they are read, one after the other, as a loop does
use Rattle.std.proofs.Common.{◌≡◌, ◌≢◌, ◌==◌, ◌+◌, ℕ, Bool, cond, List, [], ◌∷◌, ◌++◌, length, arith}
use Rattle.std.proofs.Common.{Result, Ok, Err, refl, sym, ap, ◌∙◌, length-append}
use Rattle.std.specs.Prelude.{◌^◌}
use Rattle.monk_kinds.specs.declared.mode.Rules.{Rules}
use Rattle.monk_object.specs.Object.{Object}
use Rattle.monk_history.specs.Text.Words.{◌>>=◌}
use Rattle.monk_history.proofs.PublicLaws.Meaning.{legal_none, legal-push, allowed_from_reason, legal_situation-push}
use Rattle.monk_history.proofs.PublicLaws.Meaning.{situation-none}
use Rattle.monk_history.proofs.PublicLaws.Texts.{behind, lines_behind}
use Rattle.monk_history.specs.Meaning.{Situation.Situation, Situation.situation, Reasons.reason_in, Reasons.reason_of}
use Rattle.monk_history.specs.Meaning.{Step.after, Step.opening_situation, Legal.IsLegal}
use Rattle.monk_history.specs.Meaning.Monitor.{Monitor, monitor}
use Rattle.monk_history.specs.declared.{text.fault.ReadFault.ReadFault, event.Event.Event}
use Rattle.monk_history.specs.Text.{Heading, Reading.header_at, Reading.event_under}
use Rattle.monk_history.specs.Text.Lines.{LinesLeft, items_left, lines_of, opened_at}
use Rattle.monk_audit.proofs.AuditLaws.{reason_opening}
use Rattle.monk_audit.specs.{Verdict.verdict_from, Verdict.verdict_of, Reading.verdict_at, Reading.verdict_read}
use Rattle.monk_audit.specs.{Reading.read_through, Reading.history_verdict, Reading.lines_verdict, Reading.text_verdict}
use Rattle.monk_audit.specs.declared.verdict.Verdict.{Verdict, TheVariants.Legal, TheVariants.Forbidden}
use Rattle.std.proofs.lemmas.Bool.Decides.{nat_tests}

more_count : (past : List Event) (e : Event) → length past + 1 ≡ length (past ++ e ∷ [])
more_count past e = sym (length-append past (e ∷ []))

by_reason : (m : Monitor) (past es : List Event) (e : Event) (b : Bool) (u v : Verdict) → (reason_of m past e == 0) ≡ b
    → (reason_of m past e ≡ 0 → u ≡ v)
    → cond b u (Forbidden (length past + 1) (reason_of m past e))
    ≡ cond b v (Forbidden (length past + 1) (reason_of m past e))
by_reason m past es e b u v is f = grind (arith, nat_tests)

from_here : (m : Monitor) (past es : List Event) → IsLegal m past
    → verdict_from m past es ≡ verdict_at m (length past) (situation m past) es
unfolding verdict_from verdict_at
from_here m past [] l = refl
from_here m past (e ∷ es) l =
    by_reason m past es e (reason_of m past e == 0) (verdict_from m (past ++ e ∷ []) es)
    (verdict_at m (length past + 1) (after m.object (situation m past) e) es) refl
    (λ z. from_here m (past ++ e ∷ []) es (legal-push m past e l (allowed_from_reason m (situation m past) e z))
    ∙ (ap (λ n. verdict_at m n (situation m (past ++ e ∷ [])) es) (sym (more_count past e))
    ∙ ap (λ t. verdict_at m (length past + 1) t es) (legal_situation-push m past e l)))

-- the verdict on the whole history, found from the situation before any event
pub verdict_at_is : (m : Monitor) (h : List Event) → verdict_of m h ≡ verdict_at m 0 (opening_situation m) h
verdict_at_is m h = from_here m [] h (legal_none m) ∙ ap (λ t. verdict_at m 0 t h) (situation-none m)

-- the verdict of a monitor on the events that are read, or the fault of the reading
abbrev pub verdict_of_reading : Monitor → Result (List Event) ReadFault → Result Verdict ReadFault
verdict_of_reading m read = read >>= λ es. Ok (verdict_of m es)

pub judged_is : (m : Monitor) (read : Result (List Event) ReadFault)
    → verdict_read m 0 (opening_situation m) read ≡ verdict_of_reading m read
judged_is m read = grind (arith, nat_tests, Ok, verdict_at_is, Err)

-- ---- the steps and the ends of the loop; what is to be judged is `total`

pub judged_end : (m : Monitor) (n : ℕ) (t : Situation) (read : Result (List Event) ReadFault)
    (total : Result Verdict ReadFault) → read ≡ Ok [] → verdict_read m n t read ≡ total → total ≡ Ok (Legal n)
unfolding verdict_at
judged_end m n t read total none so_far = sym so_far ∙ ap (verdict_read m n t) none

pub judged_fault : (m : Monitor) (n : ℕ) (t : Situation) (read : Result (List Event) ReadFault)
    (total : Result Verdict ReadFault) (f : ReadFault) → read ≡ Err f → verdict_read m n t read ≡ total → total ≡ Err f
judged_fault m n t read total f bad so_far = sym so_far ∙ ap (verdict_read m n t) bad

allowed_verdict : (m : Monitor) (n : ℕ) (t : Situation) (e : Event) (es : List Event) → reason_in m t e ≡ 0
    → verdict_at m n t (e ∷ es) ≡ verdict_at m (n + 1) (after m.object t e) es
unfolding verdict_at
allowed_verdict m n t e es zero_is = rw zero_is refl

allowed_read : (m : Monitor) (n : ℕ) (t : Situation) (e : Event) (new : Result (List Event) ReadFault)
    → reason_in m t e ≡ 0 → verdict_read m n t (new >>= λ es. Ok (e ∷ es)) ≡ verdict_read m (n + 1) (after m.object t e)
    new
allowed_read m n t e new zero_is = grind (arith, nat_tests, Ok, allowed_verdict, Err)

pub judged_more : (m : Monitor) (n r : ℕ) (t u : Situation) (e : Event) (read new : Result (List Event) ReadFault)
    (total : Result Verdict ReadFault) → read ≡ (new >>= λ es. Ok (e ∷ es)) → r ≡ reason_in m t e → r ≡ 0
    → u ≡ after m.object t e
    → verdict_read m n t read ≡ total → verdict_read m (n + 1) u new ≡ total
judged_more m n r t u e read new total more is zero_is step so_far = grind (arith, nat_tests, allowed_read)

forbidden_read : (m : Monitor) (n : ℕ) (t : Situation) (e : Event) (new : Result (List Event) ReadFault)
    → reason_in m t e ≢ 0
    → verdict_read m n t (new >>= λ es. Ok (e ∷ es)) ≡ (read_through new >>= λ _. Ok
    (Forbidden (n + 1) (reason_in m t e)))
unfolding verdict_at
forbidden_read m n t e new some = grind (arith, nat_tests)

pub forbidden_then : (m : Monitor) (n r : ℕ) (t : Situation) (e : Event) (read new : Result (List Event) ReadFault)
    (total : Result Verdict ReadFault) → read ≡ (new >>= λ es. Ok (e ∷ es)) → r ≡ reason_in m t e → r ≢ 0
    → verdict_read m n t read ≡ total → total ≡ (read_through new >>= λ _. Ok (Forbidden (n + 1) r))
forbidden_then m n r t e read new total more is some so_far = grind (arith, nat_tests, forbidden_read, Ok)

-- the reason that a replay gives is the reason of the monitor
pub reason_there : (k : Rules) (seats n conds : ℕ) (o : Object) (d : List ℕ) (t : Situation) (e : Event) (r : ℕ)
    → n ≡ seats → r ≡ reason_in (monitor k n conds o []) t e → r ≡ reason_in (monitor k seats conds o d) t e
reason_there k seats n conds o d t e r a b = grind (arith, nat_tests, reason_opening)

-- ---- the whole text

behind_verdict : (h : Heading) (read : Result (List Event) ReadFault)
    → ((read >>= λ es. Ok (h, es)) >>= λ x. Ok (history_verdict x)) ≡ lines_verdict h read
behind_verdict h read = grind (arith, nat_tests)

pub opened_text : (bytes : List ℕ) (h : Heading) (left : LinesLeft)
    → Ok (h, left) ≡ opened_at header_at (2 ^ 25) (lines_of bytes)
    → text_verdict bytes ≡ lines_verdict h (items_left (event_under h) left)
opened_text bytes h left opened = grind (arith, nat_tests, Ok, lines_behind, behind, behind_verdict)

pub not_opened_text : (bytes : List ℕ) (f : ReadFault) → Err f ≡ opened_at header_at (2 ^ 25) (lines_of bytes)
    → text_verdict bytes ≡ Err f
not_opened_text bytes f bad = grind (arith, nat_tests, Ok, lines_behind, behind)
