-- If waiters come first, a served seat goes on next
use Rattle.std.proofs.Common.{◌≡◌, ℕ, ◌+◌, ◌<◌, Bool, true, false, cond, ◌&&◌, ◌||◌, Some, None}
use Rattle.std.proofs.Common.{List, [], ◌∷◌, ◌++◌}
use Rattle.std.proofs.Common.{◌-◌, take, drop, refl, sym, ap, subst, ◌∙◌, arith, zero, suc, ◌⊎◌}
use Rattle.std.proofs.{Common.take-append-drop, lemmas.Bool.Decides.nat_tests}
use Rattle.std.specs.Prelude.{nat_lt, slice_get}
use Rattle.monk_kinds.specs.{Kind.IsKind, Names.rules_named}
use Rattle.monk_kinds.specs.declared.{name.KindName.KindName, mode.Rules.Rules, mode.Mode.Mode}
use Rattle.monk_history.proofs.MeaningLaws.{HistoryLaws.history_induction, LegalLaws.legal_front, LegalLaws.legal_last}
use Rattle.monk_history.proofs.MeaningLaws.ModeLaws.{IsBlocking, legal_emptied, legal_unsignalled}
use Rattle.monk_history.proofs.MeaningLaws.TurnLaws.{turn-push, data-push}
use Rattle.monk_history.proofs.MeaningLaws.StepLaws.{situation-none, legal_situation-push}
use Rattle.monk_history.specs.Meaning.{Step.after, Waiters.serves, Conditions.condition, Turn.turn, Legal.IsLegal}
use Rattle.monk_history.specs.Meaning.{Monitor.Monitor, Reasons.IsAllowed, Reasons.IsAllowedIn, Reasons.fits_turn}
use Rattle.monk_history.specs.Meaning.Events.{next_of, has_conditions, has_signaller_queue, returns_at_once}
use Rattle.monk_history.specs.Meaning.Events.{is_non_blocking, answered_act}
use Rattle.monk_history.specs.Meaning.Promises.{is_blocking, hands_over, has_hoares_rule, is_among, IsHandedTo}
use Rattle.monk_history.specs.Meaning.Promises.{HoaresRule}
use Rattle.monk_history.specs.Meaning.Situation.{Situation, situation}
use Rattle.monk_history.specs.declared.event.{Turn.TheVariants.Due, From3.From3, From3.TheVariants.Waiter as FromWaiter}
use Rattle.monk_history.specs.declared.event.{Next.TheVariants.Waiter, Event.Event, Event.TheVariants.Resume}

-- the front of a history up to an event, and that event
take_next : {X : Type 0} (xs : List X) (i : ℕ) (x : X) → slice_get xs i ≡ Some x → take (suc i) xs ≡ take i xs ++ x ∷ []
take_next [] i x h = absurd (cc)
take_next (y ∷ ys) zero x h = let e : y ≡ x = cc in ap (λ z. z ∷ []) e
take_next (y ∷ ys) (suc i) x h = ap (λ zs. y ∷ zs) (take_next ys i x h)

pub take_more_by_one : {X : Type 0} (xs : List X) (i : ℕ) (x : X) → slice_get xs i ≡ Some x
    → take (i + 1) xs ≡ take i xs ++ x ∷ []
take_more_by_one xs i x h = let e : i + 1 ≡ suc i = omega arith in ap (λ n. take n xs) e ∙ take_next xs i x h

pub legal_take : (m : Monitor) (h : List Event) (i : ℕ) → IsLegal m h → IsLegal m (take i h)
legal_take m h i l = legal_front m (take i h) (drop i h) (subst (IsLegal m) (sym (take-append-drop i h)) l)

pub due_resumes : (w : ℕ) (r : From3) (x : Event) → fits_turn (Due w r) x ≡ true → x ≡ Resume w r
due_resumes w r x h = grind (arith, nat_tests)

-- the rules of immediate return where waiters go before callers
record IsReturning (k : Rules) : Type 0 where
  conditions : has_conditions k.mode ≡ true
  no_signallers : has_signaller_queue k.mode ≡ false
  goes_on_not : is_non_blocking k.mode ≡ false
  entry_waiter : k.entry < k.waiter

-- under immediate return, if waiters go before callers, nobody is in the waiter queue between two events
returned_after : (m : Monitor) (t : Situation) (e : Event) → IsReturning m.kind → t.waiters ≡ [] → t.signallers ≡ []
    → IsAllowedIn m t e → (after m.object t e).waiters ≡ []
returned_after m t e n h g a = grind (arith, nat_tests)

legal_returned : (m : Monitor) (h : List Event) → IsReturning m.kind → IsLegal m h → (situation m h).waiters ≡ []
legal_returned m h n l =
    history_induction (λ z. IsLegal m z → (situation m z).waiters ≡ []) (λ k. ap (λ t. t.waiters) (situation-none m))
    (λ z e more k. let before : IsLegal m z = legal_front m z (e ∷ []) k in
    ap (λ t. t.waiters) (legal_situation-push m z e before)
    ∙ returned_after m (situation m z) e n (more before) (legal_unsignalled m z n.no_signallers before)
    (legal_last m z e k)) h l

-- the seat that an event serves is the one that it chooses
blocking_serves : (m : Monitor) (t : Situation) (e : Event) (w : ℕ) → IsBlocking m.kind → t.waiters ≡ []
    → IsAllowedIn m t e
    → is_among w (serves t.condition e) ≡ true → next_of e ≡ Some (Waiter w)
blocking_serves m t e w n h a g = grind (arith, nat_tests)

returning_serves : (m : Monitor) (t : Situation) (e : Event) (w : ℕ) → IsReturning m.kind → t.waiters ≡ []
    → t.signallers ≡ []
    → IsAllowedIn m t e → is_among w (serves t.condition e) ≡ true → next_of e ≡ Some (Waiter w)
returning_serves m t e w n h f a g = grind (arith, nat_tests)

-- an event that serves somebody does nothing on the object
serves_without_act : (q : ℕ → List ℕ) (e : Event) (w : ℕ) → is_among w (serves q e) ≡ true → answered_act e ≡ None
serves_without_act q e w g = grind (arith, nat_tests)

-- a seat that was chosen from the waiter queue goes on next, over the same data
handed : (m : Monitor) (h : List Event) (i w : ℕ) (e next : Event) → IsLegal m h → slice_get h i ≡ Some e
    → slice_get h (i + 1) ≡ Some next → next_of e ≡ Some (Waiter w) → answered_act e ≡ None → IsHandedTo m h i w next
handed m h i w e next l here there chosen quiet =
    let past = take i h in
    let one : take (i + 1) h ≡ past ++ e ∷ [] = take_more_by_one h i e here in
    let two : take (i + 2) h ≡ take (i + 1) h ++ next ∷ [] = grind (arith, nat_tests, take_more_by_one) in
    let due : turn (take (i + 1) h) ≡ Due w FromWaiter = grind (arith, nat_tests, turn-push) in
    let resume : next ≡ Resume w FromWaiter =
    due_resumes w FromWaiter next (subst (λ t. fits_turn t next ≡ true) due ((l (i + 1) next there).in_turn)) in
    grind (arith, nat_tests, data-push)

by_mode : (k : Rules) (d : Mode) → IsKind k → k.mode ≡ d
    → (is_blocking d || (returns_at_once d && nat_lt k.entry k.waiter)) ≡ true
    → IsBlocking k ⊎ IsReturning k
by_mode k d i e h = grind (arith, nat_tests)

chosen_of : (m : Monitor) (past : List Event) (e : Event) (w : ℕ) → IsLegal m past → IsAllowed m past e
    → is_among w (serves (λ c. condition c past) e) ≡ true → IsBlocking m.kind ⊎ IsReturning m.kind
    → next_of e ≡ Some (Waiter w)
chosen_of m past e w l a g k =
    grind (arith, nat_tests, blocking_serves, legal_emptied, returning_serves, legal_returned, legal_unsignalled)

pub hands_over_kinds : (k : KindName) → hands_over (rules_named k) ≡ has_hoares_rule k
hands_over_kinds k = grind (arith, nat_tests)

pub hoares_rule : (m : Monitor) (h : List Event) → IsKind m.kind → hands_over m.kind ≡ true → IsLegal m h
    → HoaresRule m h
hoares_rule m h i o l n w e next here there g =
    handed m h n w e next l here there
    (chosen_of m (take n h) e w (legal_take m h n l) (l n e here) g (by_mode m.kind m.kind.mode i refl o))
    (serves_without_act (λ c. condition c (take n h)) e w g)

-- tests joined, and a test that one of two passes
pub or_left : (a b : Bool) → a ≡ true → (a || b) ≡ true
or_left a b h = cc

pub both : (a b : Bool) → a ≡ true → b ≡ true → (a && b) ≡ true
both a b g h = cc

pub or_right : (a b : Bool) → b ≡ true → (a || b) ≡ true
or_right a b h = grind (arith, nat_tests)

pub by_stay : (P : Type 0) (b c d : Bool) → cond b c d ≡ true → (c ≡ true → P) → (d ≡ true → P) → P
by_stay P true c d h f g = f h
by_stay P false c d h f g = g h
