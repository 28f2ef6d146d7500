-- Only stay, entry and the front of a queue are permitted
use Rattle.std.proofs.Common.{◌≡◌, ℕ, Bool, true, false, cond, not, List, [], ◌∷◌, ◌++◌, take, map, Some}
use Rattle.std.proofs.Common.{refl, sym, subst, arith, ap, ◌∙◌}
use Rattle.std.specs.Prelude.{◌==◌, is_some, filter, zero, suc}
use Rattle.std.proofs.lemmas.Bool.{eqb-true, Decides.nat_tests}
use Rattle.std.proofs.lemmas.List.Elements.{All-contains, Contains-append_left, Contains-append_right, filter_passes}
use Rattle.std.specs.List.{Contains}
use Rattle.monk_kinds.specs.declared.mode.Rules.{Rules}
use Rattle.monk_object.specs.Object.{Object}
use Rattle.monk_history.specs.declared.event.Next.TheVariants as next
use Rattle.monk_history.proofs.PublicLaws.Meaning.{and_left, and_right}
use Rattle.monk_history.specs.Meaning.{Release.with_next, Situation.Situation}
use Rattle.monk_history.specs.Meaning.Events.{has_conditions, next_of, seat_of, steps_back, is_stay}
use Rattle.monk_history.specs.Meaning.Choice.{Queues, queues_at, is_front, is_permitted, may_choose, may_signal}
use Rattle.monk_history.specs.Meaning.Choice.{must_stay}
use Rattle.monk_history.specs.declared.event.{Event.Event, Next.Next}
use Rattle.monk_audit.specs.Settled.{permits}
use Rattle.monk_tell.specs.{Permitted.candidates, Told.chosen_at}

-- ---- elements

first_is_in : {X : Type 0} (xs : List X) (x : X) → Contains (x ∷ xs) x
first_is_in xs x = (0, omega arith, refl)

kept : {X : Type 0} (b : Bool) (y x : X) (zs : List X) → Contains zs x → Contains (cond b (y ∷ zs) zs) x
kept true y x zs c = Contains-append_right (y ∷ []) zs x c
kept false y x zs c = c

filter_has : {X : Type 0} (p : X → Bool) (xs : List X) (x : X) → Contains xs x → p x ≡ true → Contains (filter p xs) x
filter_has p [] x (k, within, is) h = absurd (omega (arith, within))
filter_has p (y ∷ ys) x (zero, within, is) h = rw (ap p is ∙ h) (0, omega arith, is)
filter_has p (y ∷ ys) x (suc k, within, is) h =
    kept (p y) y x (filter p ys) (filter_has p ys x (k, omega (arith, within), is) h)

-- ---- the release with another choice

named : (e : Event) (x : Next) → is_some (next_of e) ≡ true → next_of (with_next x e) ≡ Some x
named e x h = grind arith

-- ---- fronts

both_ways : (b c d : Bool) → cond b false (cond c d d) ≡ true → d ≡ true
both_ways b c d h = grind (arith, nat_tests)

front_is_in : (f : ℕ → Next) (j : ℕ) (xs : List ℕ) → is_front j xs ≡ true → Contains (map f (take 1 xs)) (f j)
front_is_in f j [] h = absurd cc
front_is_in f j (x ∷ xs) h = subst (λ (n : ℕ). Contains (f n ∷ []) (f j)) (sym (eqb-true x j h)) (first_is_in [] (f j))

abbrev waiting : Queues → List Next
waiting q = map (λ i. next.Waiter i) (take 1 q.waiters)

abbrev signalling : Queues → List Next
signalling q = map (λ i. next.Signaller i) (take 1 q.signallers)

abbrev ready : Queues → List Next
ready q = map (λ i. next.Until i) (take 1 q.ready)

behind : (q : Queues) (x : Next) → Contains (waiting q ++ (signalling q ++ ready q)) x → Contains (candidates q) x
behind q x c = Contains-append_right (next.Stay ∷ next.Entry ∷ []) (waiting q ++ (signalling q ++ ready q)) x c

is_candidate : (k : Rules) (stays back : Bool) (s : ℕ) (q : Queues) (x : Next)
    → cond stays (is_stay (Some x)) (cond back (may_signal k q s x) (may_choose k q s x)) ≡ true
    → Contains (candidates q) x
is_candidate k stays back s q next.Stay h =
    first_is_in (next.Entry ∷ (waiting q ++ (signalling q ++ ready q))) next.Stay
is_candidate k stays back s q next.Entry h =
    Contains-append_right (next.Stay ∷ []) (next.Entry ∷ (waiting q ++ (signalling q ++ ready q))) next.Entry
    (first_is_in (waiting q ++ (signalling q ++ ready q)) next.Entry)
is_candidate k stays back s q (next.Waiter j) h =
    behind q (next.Waiter j) (Contains-append_left (waiting q) (signalling q ++ ready q) (next.Waiter j)
    (front_is_in (λ i. next.Waiter i) j q.waiters (and_left (is_front j q.waiters) _ (both_ways stays back _ h))))
is_candidate k stays back s q (next.Signaller j) h =
    behind q (next.Signaller j) (Contains-append_right (waiting q) (signalling q ++ ready q) (next.Signaller j)
    (Contains-append_left (signalling q) (ready q) (next.Signaller j)
    (front_is_in (λ i. next.Signaller i) j q.signallers
    (and_left (is_front j q.signallers) _ (and_left _ (not (j == s)) (both_ways stays back _ h))))))
is_candidate k stays back s q (next.Until j) h =
    behind q (next.Until j) (Contains-append_right (waiting q) (signalling q ++ ready q) (next.Until j)
    (Contains-append_right (signalling q) (ready q) (next.Until j)
    (front_is_in (λ i. next.Until i) j q.ready
    (and_right (not (has_conditions k.mode)) (is_front j q.ready) (both_ways stays back _ h)))))

-- another choice changes neither the queues nor whether the caller has to stay
permitted_same : (k : Rules) (o : Object) (t : Situation) (e : Event) (x : Next)
    → permits k (queues_at o t e) (must_stay o t e) (with_next x e) ≡ is_permitted k o t (with_next x e)
permitted_same k o t e x = grind arith

pub all_told : (k : Rules) (o : Object) (t : Situation) (e : Event) (x : Next) → is_some (next_of e) ≡ true
    → is_permitted k o t (with_next x e) ≡ true → Contains (chosen_at k o t e).may x
all_told k o t e x releases may =
    let f = with_next x e in
    let q = queues_at o t e in
    let stays = must_stay o t e in
    let permitted = permitted_same k o t e x ∙ may in
    let by_rule = rw (named e x releases) at permitted in
    filter_has (λ y. permits k q stays (with_next y e)) (candidates q) x
    (is_candidate k stays (is_some (steps_back f)) (seat_of f) q x by_rule) permitted

pub only_told : (k : Rules) (o : Object) (t : Situation) (e : Event) (x : Next) → Contains (chosen_at k o t e).may x
    → is_permitted k o t (with_next x e) ≡ true
only_told k o t e x listed =
    let p = λ (y : Next). permits k (queues_at o t e) (must_stay o t e) (with_next y e) in
    sym (permitted_same k o t e x)
    ∙ All-contains (λ y. p y ≡ true) (filter p (candidates (queues_at o t e))) x
    (filter_passes p (candidates (queues_at o t e))) listed
