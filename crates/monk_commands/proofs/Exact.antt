-- Status 0 is answered exactly to the texts of legal histories, and 1 to those of histories with a first fault.
use Rattle.std.proofs.Common.{◌≡◌, ℕ, ◌≤◌, ◌<◌, ◌^◌, Bool, cond, ltb, List, Option, Some, None}
use Rattle.std.proofs.Common.{Result, Ok, Err, refl, sym, ap, ◌∙◌, arith}
use Rattle.std.specs.Prelude.{IfSome, ◌↔◌}
use Rattle.std.proofs.lemmas.Bool.{le-ltb, Decides.nat_tests}
use Rattle.monk_object.specs.Names.{most}
use Rattle.monk_history.proofs.PublicLaws.Texts.{text_again, text_read}
use Rattle.monk_history.specs.Meaning.{Legal.IsLegal, Named.named_monitor}
use Rattle.monk_history.specs.declared.{event.Event.Event, text.fault.ReadFault.ReadFault}
use Rattle.monk_history.specs.Text.{Heading, Reading.History, Reading.text_at, Lines.Gives}
use Rattle.monk_audit.proofs.PublicLaws.{is_legal, is_fault, is_verdict}
use Rattle.monk_audit.specs.{Verdict.IsVerdict, Verdict.verdict_of, Reading.same, Reading.text_verdict}
use Rattle.monk_audit.specs.declared.text_verdict.TextVerdict.{TextVerdict}
use Rattle.monk_audit.specs.declared.verdict.Verdict.{Verdict, TheVariants.Legal, TheVariants.Forbidden}
use Rattle.monk_commands.specs.Answer.{LineAnswer, answer_of, reading_answer, too_big, verdict_answer}
use Rattle.monk_commands.specs.Legal.{IsTextOf, IsLegalText, HasFault, IsForbiddenText}

-- what an answer with status 0 or 1 says about the size and the verdict
judged_by : (h : History) (b : Bool) (v : Verdict) (n : ℕ) → ltb (most h.0.object) h.0.size ≡ b
    → (cond b too_big (verdict_answer v)).status ≡ n → n < 2 → (h.0.size ≤ most h.0.object)
    × ((verdict_answer v).status ≡ n)
judged_by h b v n is e l = grind (arith, nat_tests)

text_is : (input : List ℕ) (x : History) → text_at (2 ^ 25) input ≡ Ok x → x.0.size ≤ most x.0.object
    → IsTextOf input x.0 x.1
text_is input x is size =
    let t = text_read (2 ^ 25) input x is in
    record { has_text = t.has_text; few = t.few; whole = t.whole; size = size }

-- the answer to the text of a history with that verdict
answered_by : (input : List ℕ) (h : Heading) (es : List Event) (v : Verdict) → IsTextOf input h es
    → verdict_of (named_monitor h) es ≡ v → answer_of input ≡ verdict_answer v
answered_by input h es v t is = grind (arith, nat_tests, Ok, text_again, le-ltb, Result)

-- a status below 2 is answered exactly to the histories for which P holds
exactly : (P : Heading → List Event → Type 0) (n : ℕ) → n < 2
    → ((h : Heading) (es : List Event) (v : Verdict) → IsVerdict (named_monitor h) es v
    → ((verdict_answer v).status ≡ n) ↔ P h es)
    → (input : List ℕ)
    → ((answer_of input).status ≡ n) ↔ ((h : Heading) × ((es : List Event) × (IsTextOf input h es × P h es)))
exactly P n low by input = (
  read (text_at (2 ^ 25) input) refl,
  λ t. ap (λ (a : LineAnswer). a.status) (answered_by input t.0 t.1.0 _ t.1.1.0 refl) ∙ (judged t.0 t.1.0).1 t.1.1.1,
)
  where
    judged : (h : Heading) (es : List Event)
        → ((verdict_answer (verdict_of (named_monitor h) es)).status ≡ n) ↔ P h es
    judged h es = by h es (verdict_of (named_monitor h) es) (is_verdict (named_monitor h) es)

    read : (r : Result History ReadFault) → text_at (2 ^ 25) input ≡ r → (reading_answer r).status ≡ n
        → (h : Heading) × ((es : List Event) × (IsTextOf input h es × P h es))
    read (Ok x) is e =
        let j = judged_by x (ltb (most x.0.object) x.0.size) (verdict_of (named_monitor x.0) x.1) n refl e low in
        (x.0, (x.1, (text_is input x is j.0, (judged x.0 x.1).0 j.1)))
    read (Err f) is e = absurd (omega (arith, e, low))

legal_by : (h : Heading) (es : List Event) (v : Verdict) → IsVerdict (named_monitor h) es v
    → ((verdict_answer v).status ≡ 0) ↔ IsLegal (named_monitor h) es
legal_by h es (Legal n) w = (λ e. w.0, λ l. refl)
legal_by h es (Forbidden s r) w = (
  λ e. absurd (omega (arith, e)),
  λ l. ap (λ (v : Verdict). (verdict_answer v).status) (is_legal (named_monitor h) es (Forbidden s r) w l),
)

fault_by : (h : Heading) (es : List Event) (v : Verdict) → IsVerdict (named_monitor h) es v
    → ((verdict_answer v).status ≡ 1) ↔ HasFault h es
fault_by h es (Legal n) w = (
  λ e. absurd (omega (arith, e)),
  λ f. ap (λ (v : Verdict). (verdict_answer v).status)
      (is_fault (named_monitor h) es (Legal n) f.step f.reason w f.first),
)
fault_by h es (Forbidden s r) w = (λ e. record { step = s; reason = r; first = w }, λ f. refl)

-- the status that was given for what was found is that of the text
pub status_is : (known : Option (List ℕ)) (found : Result TextVerdict ReadFault) (given status : ℕ) → status ≡ given
    → IfSome known (λ input. Gives same found (text_verdict input))
    → ((input : List ℕ) → Gives same found (text_verdict input) → given ≡ (answer_of input).status)
    → IfSome known (λ input. status ≡ (answer_of input).status)
status_is known found given status is gives says = grind (arith, nat_tests)

-- if a status is the answer's, it means exactly what it means for the answer
known_exactly : (n : ℕ) (Is : List ℕ → Type 0) → ((input : List ℕ) → ((answer_of input).status ≡ n) ↔ Is input)
    → (known : Option (List ℕ)) (status : ℕ) → IfSome known (λ input. status ≡ (answer_of input).status)
    → IfSome known (λ input. (status ≡ n) ↔ Is input)
known_exactly n Is exactly_is None status h = tt
known_exactly n Is exactly_is (Some input) status h =
    (λ e. (exactly_is input).0 (sym h ∙ e), λ t. h ∙ (exactly_is input).1 t)

pub zero_exactly : (known : Option (List ℕ)) (status : ℕ) → IfSome known (λ input. status ≡ (answer_of input).status)
    → IfSome known (λ input. (status ≡ 0) ↔ IsLegalText input)
zero_exactly = known_exactly 0 IsLegalText (exactly (λ h es. IsLegal (named_monitor h) es) 0 (omega arith) legal_by)

pub one_exactly : (known : Option (List ℕ)) (status : ℕ) → IfSome known (λ input. status ≡ (answer_of input).status)
    → IfSome known (λ input. (status ≡ 1) ↔ IsForbiddenText input)
one_exactly = known_exactly 1 IsForbiddenText (exactly HasFault 1 (omega arith) fault_by)
