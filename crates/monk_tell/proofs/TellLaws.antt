-- What a reason says about an event, and a first fault about a history
use Rattle.std.proofs.Common.{◌≡◌, ◌≢◌, ℕ, Bool, true, cond, not, List, []}
use Rattle.std.proofs.Common.{◌⊎◌, ◌≤◌, ◌<◌, ◌-◌, get_or, length, refl, sym, take, ap, arith, ◌∙◌}
use Rattle.std.proofs.lemmas.{Option.get_or_from_slice_get, Option.slice_get_within, Bool.Decides.nat_tests}
use Rattle.monk_kinds.specs.{declared.mode.Rules.Rules, declared.name.KindName.KindName, Names.rules_named}
use Rattle.monk_object.specs.{Object.Object, Names.meaning_named}
use Rattle.monk_history.proofs.PublicLaws.Meaning.{and_right}
use Rattle.monk_history.specs.Meaning.{Legal.IsFirstFault, Events.seat_of, Events.via_of, Monitor.Monitor}
use Rattle.monk_history.specs.Meaning.{Monitor.monitor, Situation.Situation, Situation.situation, Named.named_monitor}
use Rattle.monk_history.specs.Meaning.Reasons.{fits_object, is_in_range, reason_in}
use Rattle.monk_history.specs.declared.event.{Event.Event, Event.TheVariants.Enter, Via.TheVariants.Free}
use Rattle.monk_history.specs.Text.{Heading}
use Rattle.monk_audit.specs.declared.reason.Reason.TheVariants as reasons
use Rattle.monk_audit.proofs.PublicLaws.{is_verdict}
use Rattle.monk_audit.specs.{declared.verdict.Verdict.Verdict, declared.verdict.Verdict.TheVariants.Forbidden}
use Rattle.monk_audit.specs.{declared.reason.Reason.Reason, Reasons.number_of, Verdict.verdict_of}
use Rattle.monk_tell.specs.{Cause.early_cause, Cause.no_entry, declared.why.Why.Why, declared.why.Why.TheVariants.Turn}

passed_first : (b : Bool) (n k : ℕ) → cond (not b) 1 n ≡ k → k ≢ 1 → b ≡ true
passed_first b n k h other = grind (arith, nat_tests)

in_range : (m : Monitor) (t : Situation) (e : Event) (k : ℕ) → reason_in m t e ≡ k → k ≢ 1
    → is_in_range m.seats m.conds m.object.codes m.object.predicates e ≡ true
unfolding reason_in
in_range m t e k h other = passed_first (is_in_range m.seats m.conds m.object.codes m.object.predicates e) _ k h other

-- if an event is not out of range, it fits the object
pub in_range_fits : (m : Monitor) (t : Situation) (e : Event) (k codes predicates : ℕ) → reason_in m t e ≡ k → k ≢ 1
    → m.object.codes ≡ codes → m.object.predicates ≡ predicates → fits_object codes predicates e ≡ true
in_range_fits m t e k codes predicates h other c p =
    sym (ap (λ (n : ℕ). fits_object n predicates e) c) ∙ sym (ap (λ (n : ℕ). fits_object m.object.codes n e) p)
    ∙ and_right _ (fits_object m.object.codes m.object.predicates e) (in_range m t e k h other)

-- a reason doesn't depend on the opening state
pub reason_opening : (k : Rules) (seats conds : ℕ) (o : Object) (d : List ℕ) (t : Situation) (e : Event)
    → reason_in (monitor k seats conds o d) t e ≡ reason_in (monitor k seats conds o []) t e
unfolding reason_in
reason_opening k seats conds o d t e = refl

-- the fault of a history with that verdict
pub judged_fault : (h : Heading) (es : List Event) (v : Verdict) (step reason : ℕ) → v ≡ verdict_of (named_monitor h) es
    → v ≡ Forbidden step reason → IsFirstFault (named_monitor h) es step reason
judged_fault h es v step reason is forbids = grind (arith, nat_tests, is_verdict)

-- where that fault is
pub fault_there : (h : Heading) (es : List Event) (v : Verdict) (step reason : ℕ) → v ≡ verdict_of (named_monitor h) es
    → v ≡ Forbidden step reason → (1 ≤ step) × (step - 1 < length es)
fault_there h es v step reason is forbids =
    let f = judged_fault h es v step reason is forbids in
    let there : f.before < length es = slice_get_within es f.before f.fault f.is_there in
    (omega (arith, f.is_step), omega (arith, f.is_step, there))

-- the reason against its event, for any opening state
pub fault_reason : (h : Heading) (es : List Event) (step reason : ℕ) (k : Rules) (o : Object) (t : Situation)
    → IsFirstFault (named_monitor h) es step reason → k ≡ rules_named h.kind → o ≡ meaning_named h.object
    → t ≡ situation (named_monitor h) (take (step - 1) es)
    → reason ≡ reason_in (monitor k h.seats h.conds o []) t (get_or es (step - 1) (Enter 0 Free))
fault_reason h es step reason k o t f kind named stands =
    grind (arith, nat_tests, get_or_from_slice_get, reason_opening)

abbrev early_by : KindName → ℕ → ℕ → Situation → Event → Reason → Why
early_by kind seats conds t e r = early_cause kind seats conds t (number_of r) e

-- why the seat of an event may not enter, as its reason's cause
pub place_caused : (kind : KindName) (seats conds : ℕ) (t : Situation) (e : Event) (r : Reason) (why : Why)
    → (r ≡ reasons.Place) ⊎ ((r ≡ reasons.Reply) ⊎ (r ≡ reasons.Choice))
    → why ≡ Turn (no_entry (t.inside (seat_of e)) (via_of e) (seat_of e)) → why ≡ early_by kind seats conds t e r
place_caused kind seats conds t e r why h is = grind (arith, nat_tests)
