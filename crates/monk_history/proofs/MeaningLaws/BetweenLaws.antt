-- If waiters go before callers, nobody enters before a served seat has gone on
use Rattle.std.proofs.Common.{◌≡◌, ℕ, ◌+◌, ◌<◌, true, false, ◌==◌, Some}
use Rattle.std.proofs.Common.{List, [], ◌∷◌, ◌++◌}
use Rattle.std.proofs.Common.{length, get_or, ◌-◌, take, sym, ap, subst, ◌∙◌, arith, zero, suc}
use Rattle.std.proofs.Common.{◌⊎◌, inl, inr, ⊎_elim}
use Rattle.std.proofs.lemmas.{List.Folds.list_any-append, Bool.Decides.nat_tests}
use Rattle.std.proofs.lemmas.Option.{slice_get_within, slice_get-get_or}
use Rattle.std.specs.Prelude.{nat_lt, slice_get, is_some}
use Rattle.monk_kinds.specs.{Names.rules_named, declared.name.KindName.KindName}
use Rattle.monk_history.proofs.MeaningLaws.HandOverLaws.{take_more_by_one, legal_take, due_resumes, or_left, or_right}
use Rattle.monk_history.proofs.MeaningLaws.StepLaws.{legal_situation-push}
use Rattle.monk_history.specs.Meaning.{Monitor.Monitor, Step.after, Waiters.serves, Waiters.waiters}
use Rattle.monk_history.specs.Meaning.{Conditions.condition, Legal.IsLegal, Promises.is_among, Promises.is_served}
use Rattle.monk_history.specs.Meaning.{Promises.puts_callers_last, Promises.GoesOnBetween, Promises.NobodyComesBetween}
use Rattle.monk_history.specs.Meaning.{Reasons.IsAllowedIn, Reasons.fits_turn, Reasons.is_open, Events.via_of}
use Rattle.monk_history.specs.Meaning.Situation.{Situation, situation}
use Rattle.monk_history.specs.declared.event.{Event.Event, Turn.TheVariants.Due, From3.TheVariants.Waiter as FromWaiter}

-- seat w is in the waiter queue while some seat has the monitor, or the turn is due to it from there
abbrev IsOnItsWay : ℕ → Situation → Type 0
IsOnItsWay w t = ((is_among w t.waiters ≡ true) × (is_open t.turn ≡ false)) ⊎ (t.turn ≡ Due w FromWaiter)

among_first : (w : ℕ) (xs ys : List ℕ) → is_among w xs ≡ true → is_among w (xs ++ ys) ≡ true
among_first w xs ys h = list_any-append (λ s. s == w) xs ys ∙ or_left (is_among w xs) (is_among w ys) h

among_second : (w : ℕ) (xs ys : List ℕ) → is_among w ys ≡ true → is_among w (xs ++ ys) ≡ true
among_second w xs ys h = list_any-append (λ s. s == w) xs ys ∙ or_right (is_among w xs) (is_among w ys) h

-- after an allowed event a seat that was in the waiter queue, or that the event served, is on its way
on_its_way : (m : Monitor) (t : Situation) (e : Event) (w : ℕ) → m.kind.entry < m.kind.waiter
    → is_among w (t.waiters ++ serves t.condition e) ≡ true → IsAllowedIn m t e → IsOnItsWay w (after m.object t e)
on_its_way m t e w l h a = grind (arith, nat_tests)

-- nobody enters while a seat is on its way
cannot_enter : (w : ℕ) (t : Situation) (x : Event) → IsOnItsWay w t → is_some (via_of x) ≡ true
    → fits_turn t.turn x ≡ true → ⊥
cannot_enter w t x o v f = grind (arith, nat_tests)

-- from event i on, up to n events later, the seat has gone on or is on its way
way_from : (m : Monitor) (h : List Event) (i w n : ℕ) (e : Event) → m.kind.entry < m.kind.waiter → IsLegal m h
    → slice_get h i ≡ Some e → is_served w (take i h) e ≡ true → i + 1 + n < length h
    → GoesOnBetween h w i (i + 1 + n) ⊎ IsOnItsWay w (situation m (take (i + 1 + n) h))
way_from m h i w zero e l k here g r =
    inr (subst (λ (z : List Event). IsOnItsWay w (situation m z))
    ((let p : i + 1 ≡ i + 1 + zero = omega arith in sym (take_more_by_one h i e here) ∙ ap (λ z. take z h) p))
    (subst (IsOnItsWay w) (sym (legal_situation-push m (take i h) e (legal_take m h i k)))
    (on_its_way m (situation m (take i h)) e w l
    (among_second w (waiters (take i h)) (serves (λ c. condition c (take i h)) e) g) (k i e here))))
way_from m h i w (suc n) e l k here g r =
    let at = i + 1 + n in
    let x = get_or h at e in
    let there : slice_get h at ≡ Some x = slice_get-get_or h at e (omega (arith, r)) in
    let more : take (i + 1 + suc n) h ≡ take at h ++ x ∷ [] = grind (arith, nat_tests, take_more_by_one) in
    ⊎_elim
    (λ done. inl (done.0, done.1, omega (arith, done.2), done.3))
    (λ way. ⊎_elim
    (λ queued. inr (subst (λ (z : List Event). IsOnItsWay w (situation m z)) (sym more)
    (subst (IsOnItsWay w) (sym (legal_situation-push m (take at h) x (legal_take m h at k)))
    (on_its_way m (situation m (take at h)) x w l
    (among_first w (waiters (take at h)) (serves (λ c. condition c (take at h)) x) queued.0) (k at x there)))))
    (λ due. inl (
      at,
      omega arith,
      omega arith,
      there ∙ ap Some (due_resumes w FromWaiter x
          (subst (λ t. fits_turn t x ≡ true) due ((k at x there).in_turn))),
    ))
    way)
    (way_from m h i w n e l k here g (omega (arith, r)))

pub nobody_comes_between : (m : Monitor) (h : List Event) → m.kind.entry < m.kind.waiter → IsLegal m h
    → NobodyComesBetween h
nobody_comes_between m h l k i j w e x here there r g v =
    let n = j - (i + 1) in
    let at : i + 1 + n ≡ j = omega (arith, r) in
    let within : j < length h = slice_get_within h j x there in
    ⊎_elim
    (λ done. (done.0, done.1, subst (λ z. done.0 < z) at done.2, done.3))
    (λ way. absurd (cannot_enter w (situation m (take j h)) x
    (subst (λ (z : ℕ). IsOnItsWay w (situation m (take z h))) at way) v ((k j x there).in_turn)))
    (way_from m h i w n e l k here g (omega (arith, at, within)))

pub callers_last_kinds : (k : KindName) → nat_lt (rules_named k).entry (rules_named k).waiter ≡ puts_callers_last k
callers_last_kinds k = grind (arith, nat_tests)
