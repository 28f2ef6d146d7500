-- If entry is chosen, nobody could be chosen from a queue, unless somebody is known to wait for entry
use Rattle.std.proofs.Common.{◌≡◌, ◌≢◌, ℕ, Bool, true, false, cond, not, Option, Some, None, List, [], ◌∷◌, ◌++◌}
use Rattle.std.proofs.Common.{drop, map, refl, ap, ◌∙◌, arith}
use Rattle.std.{specs.Prelude.filter, proofs.lemmas.Bool.false≢true, proofs.lemmas.Bool.Decides.nat_tests}
use Rattle.monk_kinds.specs.declared.mode.{Pick.Pick, Rules.Rules}
use Rattle.monk_object.specs.Object.{Object}
use Rattle.monk_history.proofs.MeaningLaws.QueueSeats.{legal_sorted, sorted_queues}
use Rattle.monk_history.proofs.MeaningLaws.StepLaws.{legal_situation-push}
use Rattle.monk_history.specs.Meaning.{Situation.Situation, Situation.situation, Reasons.IsAllowed, Legal.IsLegal}
use Rattle.monk_history.specs.Meaning.{Release.as_called, Entry.IsQuiet, Entry.AdmitsUnknown, Signallers.is_empty}
use Rattle.monk_history.specs.Meaning.{Wish.inner_waiters, Wish.choice_by, Events.next_of, Events.is_until}
use Rattle.monk_history.specs.Meaning.{Events.is_stay, Untils.waits_until, Untils.chooses, Untils.ready_of}
use Rattle.monk_history.specs.Meaning.Choice.{Queues, queues_at, must_stay}
use Rattle.monk_history.specs.Meaning.Monitor.{Monitor, data_after}
use Rattle.monk_history.specs.declared.event.Next.{Next, TheVariants.Stay, TheVariants.Entry}
use Rattle.monk_history.specs.declared.event.Event.{Event}
use Rattle.monk_history.specs.declared.event.Event.TheVariants.{Enter, Act, Leave, Wait, Signal, SignalLeave, Until}
use Rattle.monk_history.specs.declared.event.Event.TheVariants.{Resume, SignalAll, SignalWait}

-- both inner queues are empty
record IsAlone (none empty : Bool) : Type 0 where
  waiters : none ≡ true
  signallers : empty ≡ true

chosen_alone : (k : Rules) (q : Queues) (s : ℕ) (wish : Pick) → choice_by k q s false wish ≡ Entry
    → IsAlone (is_empty (inner_waiters k q)) (is_empty q.signallers)
chosen_alone k q s wish h = grind (arith, nat_tests)

empty_is : {X : Type 0} (xs : List X) → is_empty xs ≡ true → xs ≡ []
empty_is [] h = refl
empty_is (x ∷ xs) h = absurd (false≢true h)

drop_empty : (b : Bool) (xs : List ℕ) → xs ≡ [] → drop (cond b 1 0) xs ≡ []
drop_empty b xs h = grind (arith, nat_tests)

same_queues : (o : Object) (t : Situation) (e : Event) → queues_at o t (as_called e) ≡ queues_at o t e
same_queues o t e = grind (arith, nat_tests)

-- if nobody was ready, nobody is, when nobody is chosen and nobody ready joins
some_ready : (o : Object) (d : List ℕ) (w : ℕ × ℕ) (us vs : List (ℕ × ℕ)) (b : Bool)
    → map (λ (u : ℕ × ℕ). u.0) (cond b (w ∷ filter (λ u. o.holds d u.1) us) (filter (λ u. o.holds d u.1) us)) ≡ []
    → (map (λ (u : ℕ × ℕ). u.0) (filter (λ u. o.holds d u.1) us) ≡ []
    → map (λ (u : ℕ × ℕ). u.0) (filter (λ u. o.holds d u.1) vs) ≡ [])
    → map (λ (u : ℕ × ℕ). u.0) (cond b (w ∷ filter (λ u. o.holds d u.1) vs) (filter (λ u. o.holds d u.1) vs)) ≡ []
some_ready o d w us vs b h f = grind (arith, nat_tests)

none_ready : (o : Object) (d : List ℕ) (us vs : List (ℕ × ℕ)) → ready_of o d us ≡ [] → ready_of o d vs ≡ []
    → ready_of o d (filter (λ w. true) us ++ vs) ≡ []
none_ready o d [] vs h k = k
none_ready o d (w ∷ us) vs h k =
    some_ready o d w us (filter (λ u. true) us ++ vs) (o.holds d w.1) h (λ g. none_ready o d us vs g k)

joins_unready : (o : Object) (d : List ℕ) (s p : ℕ) → o.holds d p ≡ false → ready_of o d ((s, p) ∷ []) ≡ []
joins_unready o d s p h = ap (λ b. map (λ (u : ℕ × ℕ). u.0) (cond b ((s, p) ∷ []) [])) h

none_entry : ◌≡◌ {A = Option Next} None (Some Entry) → ⊥
none_entry e = cc

must_choose : (b : Bool) (x : Next) → cond b Stay x ≡ Entry → b ≡ false
must_choose b x e = grind (arith, nat_tests)

then_choice : (b : Bool) (x : Next) → cond b Stay x ≡ Entry → x ≡ Entry
then_choice b x e = grind (arith, nat_tests)

admits_alone : (m : Monitor) (t : Situation) (e : Event) (wish : Pick) → AdmitsUnknown m t e wish
    → IsAlone (is_empty (inner_waiters m.kind (queues_at m.object t e))) (is_empty (queues_at m.object t e).signallers)
admits_alone m t e wish a = grind (arith, nat_tests, chosen_alone, same_queues, then_choice)

ready_after : (o : Object) (t : Situation) (e : Event) → next_of e ≡ Some Entry → must_stay o t (as_called e) ≡ false
    → ready_of o t.state t.untils ≡ []
    → ready_of o (data_after o t.state e) (filter (λ w. not (chooses e w)) t.untils ++ waits_until e) ≡ []
ready_after o t (Enter s via) n b h = absurd (none_entry n)
ready_after o t (Act s op r) n b h = absurd (none_entry n)
ready_after o t (Resume s q) n b h = absurd (none_entry n)
ready_after o t (Leave s x) n b h =
    ap (λ y. ready_of o t.state (filter (λ w. not (is_until w.0 y)) t.untils ++ [])) n
    ∙ none_ready o t.state t.untils [] h refl
ready_after o t (Wait s c x) n b h =
    ap (λ y. ready_of o t.state (filter (λ w. not (is_until w.0 y)) t.untils ++ [])) n
    ∙ none_ready o t.state t.untils [] h refl
ready_after o t (Signal s c x) n b h =
    ap (λ y. ready_of o t.state (filter (λ w. not (is_until w.0 y)) t.untils ++ [])) n
    ∙ none_ready o t.state t.untils [] h refl
ready_after o t (SignalLeave s c x) n b h =
    ap (λ y. ready_of o t.state (filter (λ w. not (is_until w.0 y)) t.untils ++ [])) n
    ∙ none_ready o t.state t.untils [] h refl
ready_after o t (Until s p x) n b h =
    ap (λ y. ready_of o t.state (filter (λ w. not (is_until w.0 y)) t.untils ++ cond (is_stay y) [] ((s, p) ∷ []))) n
    ∙ none_ready o t.state t.untils ((s, p) ∷ []) h (joins_unready o t.state s p b)
ready_after o t (SignalAll s c) n b h = absurd (none_entry n)
ready_after o t (SignalWait s c d x) n b h =
    ap (λ y. ready_of o t.state (filter (λ w. not (is_until w.0 y)) t.untils ++ [])) n
    ∙ none_ready o t.state t.untils [] h refl

by_conditions : (b : Bool) (P : Type 0) → (b ≡ true → P) → (b ≡ false → P) → P
by_conditions true P f g = f refl
by_conditions false P f g = g refl

-- after it nobody could be chosen from a queue
pub quiet_after : (m : Monitor) (h : List Event) (e : Event) (wish : Pick) → IsLegal m h → IsAllowed m h e
    → AdmitsUnknown m (situation m h) e wish → IsQuiet m (h ++ e ∷ [])
quiet_after m h e wish l a u =
    let t = situation m h in
    let q = queues_at m.object t e in
    let alone_here = admits_alone m t e wish u in
    let step = legal_situation-push m h e l in
    let sorted = sorted_queues m.kind m.object t e (legal_sorted m h l) a.offered in
    let goes = must_choose (must_stay m.object t (as_called e)) _ u.choice in
    let inner = empty_is (inner_waiters m.kind q) alone_here.waiters in
    grind (arith, nat_tests, drop_empty, by_conditions, empty_is, ready_after)
