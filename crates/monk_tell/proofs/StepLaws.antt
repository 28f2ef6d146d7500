-- The steps of a legal history, with one more event
use Rattle.std.proofs.Common.{◌≡◌, ℕ, ◌+◌, ◌-◌, ◌<◌, ◌≤◌, Bool, cond, List, [], ◌∷◌, ◌++◌}
use Rattle.std.proofs.Common.{sym, ap, subst, arith, ◌∙◌}
use Rattle.std.proofs.lemmas.{Bool.ne_eqb, Bool.Decides.nat_tests, Option.slice_get_within}
use Rattle.std.proofs.lemmas.List.{get_or-take, length-take-le, map-append, take-take, FromFn.map-range_with_len_more}
use Rattle.std.proofs.Common.{length, map, take, get_or}
use Rattle.std.specs.List.{range_with_len}
use Rattle.monk_kinds.specs.{Names.rules_named, declared.mode.Rules.Rules}
use Rattle.monk_object.specs.{Names.meaning_named, Names.opening_named, Object.Object}
use Rattle.monk_history.specs.{Meaning.Named.named_monitor, Meaning.Legal.IsLegal, Meaning.Reasons.reason_in}
use Rattle.monk_history.specs.{Meaning.Reasons.reason_of, Meaning.Situation.Situation, Meaning.Situation.situation}
use Rattle.monk_history.specs.{Meaning.Step.after, Meaning.Monitor.Monitor, Meaning.Monitor.monitor, Text.Heading}
use Rattle.monk_history.specs.declared.event.{Event.Event, Event.TheVariants.Enter, Via.TheVariants.Free}
use Rattle.monk_audit.proofs.PublicLaws.{is_verdict, legal_take, no_reason, stands_more}
use Rattle.monk_audit.specs.declared.verdict.Verdict.{Verdict, TheVariants.Legal, TheVariants.Forbidden}
use Rattle.monk_audit.specs.Verdict.{IsVerdict, verdict_of}
use Rattle.monk_tell.proofs.TellLaws.{reason_opening}
use Rattle.monk_tell.specs.{Told.allowed_events, declared.step.Step.Step}
use Rattle.monk_tell.specs.Steps.{ShownStep, event_step, opening_step, step_after, step_by, step_of}

-- there are `n` events, and they are legal
allowed_there : (m : Monitor) (es : List Event) (v : Verdict) (n : ℕ) → IsVerdict m es v → n ≤ allowed_events v
    → n ≤ length es
allowed_there m es v n is few = grind (arith, nat_tests, slice_get_within)

allowed_legal : (m : Monitor) (es : List Event) (v : Verdict) (n : ℕ) → IsVerdict m es v → n ≤ allowed_events v
    → IsLegal m (take n es)
allowed_legal m es (Legal count) n is few = legal_take m es n is.0
allowed_legal m es (Forbidden step reason) n is few =
    subst (λ (xs : List Event). IsLegal m xs) (take-take n is.before es (omega (arith, few, is.is_step)))
    (legal_take m (take is.before es) n is.legal_before)

-- the verdict on a history
verdict_is : (h : Heading) (es : List Event) (v : Verdict) → v ≡ verdict_of (named_monitor h) es
    → IsVerdict (named_monitor h) es v
verdict_is h es v is = subst (IsVerdict (named_monitor h) es) (sym is) (is_verdict (named_monitor h) es)

pub judged_there : (h : Heading) (es : List Event) (v : Verdict) (n : ℕ) → v ≡ verdict_of (named_monitor h) es
    → n ≤ allowed_events v → n ≤ length es
judged_there h es v n is few = allowed_there (named_monitor h) es v n (verdict_is h es v is) few

pub judged_before : (h : Heading) (es : List Event) (v : Verdict) (n : ℕ) → v ≡ verdict_of (named_monitor h) es
    → n < allowed_events v → n < length es
judged_before h es v n is few = let there = judged_there h es v (n + 1) is (omega (arith, few)) in omega (arith, there)

judged_legal : (h : Heading) (es : List Event) (v : Verdict) (n : ℕ) → v ≡ verdict_of (named_monitor h) es
    → n ≤ allowed_events v → IsLegal (named_monitor h) (take n es)
judged_legal h es v n is few = allowed_legal (named_monitor h) es v n (verdict_is h es v is) few

abbrev event_of : List Event → ℕ → Event
event_of es n = get_or es n (Enter 0 Free)

-- there is no reason against an event of legal ones, for any opening state
none_against : (k : Rules) (seats conds : ℕ) (o : Object) (d : List ℕ) (es : List Event) (n : ℕ) (t : Situation)
    → IsLegal (monitor k seats conds o d) (take (n + 1) es) → n < length es
    → t ≡ situation (monitor k seats conds o d) (take n es)
    → reason_in (monitor k seats conds o []) t (event_of es n) ≡ 0
none_against k seats conds o d es n t legal within stands =
    let m = monitor k seats conds o d in
    let front = take (n + 1) es in
    let there : n < length front = omega (arith, length-take-le (n + 1) es (omega (arith, within))) in
    let before : take n front ≡ take n es = take-take n (n + 1) es (omega arith) in
    let same : event_of front n ≡ event_of es n = get_or-take (n + 1) es n (Enter 0 Free) (omega arith) in
    sym (reason_opening k seats conds o d t (event_of es n))
    ∙ ap (λ (x : Situation). reason_in m x (event_of es n)) stands
    ∙ no_reason m front n (Enter 0 Free) _ there legal (λ i. reason_of m (sym before i) (sym same i))

-- there is no reason against the next event that is allowed, for any opening state
pub next_allowed : (h : Heading) (es : List Event) (v : Verdict) (n : ℕ) (k : Rules) (seats conds : ℕ) (o : Object)
    (t : Situation) → v ≡ verdict_of (named_monitor h) es → n < allowed_events v
    → t ≡ situation (named_monitor h) (take n es)
    → k ≡ rules_named h.kind → seats ≡ h.seats → conds ≡ h.conds → o ≡ meaning_named h.object
    → reason_in (monitor k seats conds o []) t (event_of es n) ≡ 0
next_allowed h es v n k seats conds o t is few stands kind as_seats as_conds named =
    rw (kind, as_seats, as_conds, named)
    (none_against (rules_named h.kind) h.seats h.conds (meaning_named h.object) (opening_named h.object h.size) es n t
    (judged_legal h es v (n + 1) is (omega (arith, few))) (judged_before h es v n is few) stands)

-- where it leads
pub next_reached : (h : Heading) (es : List Event) (v : Verdict) (n : ℕ) (o : Object) (t u : Situation)
    → v ≡ verdict_of (named_monitor h) es → n < allowed_events v → t ≡ situation (named_monitor h) (take n es)
    → o ≡ meaning_named h.object → u ≡ after o t (event_of es n) → u ≡ situation (named_monitor h) (take (n + 1) es)
next_reached h es v n o t u is few stands named leads =
    stands_more (named_monitor h) es n (Enter 0 Free) t u (judged_before h es v n is few)
    (judged_legal h es v n is (omega (arith, few))) stands
    (leads ∙ ap (λ (x : Object). after x t (event_of es n)) named)

-- one more step
pub step_told : (m : Monitor) (es : List Event) (before i : ℕ) (xs : List Step) (x : Step)
    → map step_of xs ≡ map (step_after m es before) (range_with_len before (i + 1))
    → step_of x ≡ event_step m es (before + i + 1)
    → map step_of (xs ++ x ∷ []) ≡ map (step_after m es before) (range_with_len before (i + 1 + 1))
step_told m es before i xs x told is =
    map-append step_of xs (x ∷ []) ∙ (ap (λ (ss : List ShownStep). ss ++ step_of x ∷ []) told
    ∙ (ap (λ (s : ShownStep). map (step_after m es before) (range_with_len before (i + 1)) ++ s ∷ []) (is ∙ sym goes_on)
    ∙ sym (map-range_with_len_more (step_after m es before) before (i + 1) (before + i + 1) (omega arith))))
  where
    goes_on : step_after m es before (before + i + 1) ≡ event_step m es (before + i + 1)
    goes_on =
        let n = before + i + 1 in
        ap (λ (b : Bool). cond b (opening_step m (situation m (take n es))) (event_step m es n))
        (ne_eqb n before (λ same. omega (arith, same)))

-- an event's step, from the situations before it and after it
pub event_told : (m : Monitor) (es : List Event) (n : ℕ) (t u : Situation) → t ≡ situation m (take n es)
    → u ≡ situation m (take (n + 1) es) → step_by m t (event_of es n) u ≡ event_step m es (n + 1)
event_told m es n t u stands reached = grind (arith, nat_tests)
