-- With the choice of its last release, the history that a log shows completes it
use Rattle.std.proofs.Common.{◌≡◌, ℕ, ◌≤◌, false, List, [], ◌∷◌, ◌++◌, length, Some, None}
use Rattle.std.proofs.Common.{refl, sym, ap, subst, ◌∙◌, arith}
use Rattle.std.proofs.lemmas.List.{append-nil, append_assoc, length-append, same_from_push}
use Rattle.monk_kinds.specs.{Kind.IsKind, declared.mode.Pick.TheVariants.Entry as WishEntry, declared.mode.Rules.Rules}
use Rattle.monk_object.specs.Object.{Object}
use Rattle.monk_history.specs.declared.event.Event.TheVariants as event
use Rattle.monk_history.proofs.PublicLaws.Meaning.{chosen_allowed, history_induction, legal-push, legal_last}
use Rattle.monk_history.proofs.PublicLaws.Meaning.{legal_order}
use Rattle.monk_history.specs.Meaning.{Events.next_of, Legal.IsLegal, Monitor.Monitor, Reasons.IsAllowed}
use Rattle.monk_history.specs.Meaning.{Release.MayCall, Release.with_next, Situation.Situation, Situation.situation}
use Rattle.monk_history.specs.declared.event.{Event.Event, Next.Next, Next.TheVariants.Stay}
use Rattle.monk_completion.proofs.Soundness.{Tells, release_right}
use Rattle.monk_completion.proofs.Halves.{event_whole, never, signal_half}
use Rattle.monk_completion.proofs.Events.{erased_with_next, erasure-push, handed-push, no_enter, release_is_no_enter}
use Rattle.monk_completion.specs.{Ending.last_events, Ending.unwished_next, Erasure.erasure_of, Erasure.erasure}
use Rattle.monk_completion.specs.Completion.{AreHandedOver, Completes, other_half}
use Rattle.monk_completion.specs.declared.pending.Pending.{Pending}
use Rattle.monk_completion.specs.declared.pending.Pending.TheVariants.{Settled, Half, Release}
use Rattle.monk_logs.specs.declared.text.line.LogLine.{LogLine, TheVariants.Leave, TheVariants.Signal}
use Rattle.std.proofs.lemmas.Bool.Decides.{nat_tests}

-- ---- how many events there are

some_line : (e : Event) → 1 ≤ length (erasure_of e)
some_line e = grind arith

few_events : (h : List Event) → length h ≤ length (erasure h)
few_events [] = omega arith
few_events (e ∷ h) = omega (arith, length-append (erasure_of e) (erasure h), some_line e, few_events h)

one_more : (past : List Event) (e : Event) (rest log : List LogLine) → erasure past ++ rest ≡ log → 1 ≤ length rest
    → length (past ++ e ∷ []) ≤ length log
one_more past e rest log told some = grind (arith, nat_tests, length-append, few_events)

-- ---- a release without a wish

unwished_again : (k : Rules) (o : Object) (t : Situation) (x : Next) (e : Event)
    → unwished_next k o t (with_next x e) ≡ unwished_next k o t e
unwished_again k o t x e = grind arith

chosen_is : (x y : Next) (e : Event) → next_of e ≡ Some Stay → next_of (with_next x e) ≡ Some y → y ≡ x
chosen_is x y e h h2 = grind arith

last_chosen : (m : Monitor) (past before : List Event) (e last : Event) (y : Next) → next_of e ≡ Some Stay
    → past ++ with_next (unwished_next m.kind m.object (situation m past) e) e ∷ [] ≡ before ++ last ∷ []
    → next_of last ≡ Some y
    → y ≡ unwished_next m.kind m.object (situation m before) last
last_chosen m past before e last y stays is chose =
    let x = unwished_next m.kind m.object (situation m past) e in
    let p = same_from_push past before (with_next x e) last is in
    grind (arith, nat_tests, chosen_is, unwished_again)

release_completes : (m : Monitor) (past : List Event) (e : Event) (log : List LogLine) → IsKind m.kind → IsLegal m past
    → MayCall m past e → next_of e ≡ Some Stay → erasure past ++ erasure_of e ≡ log ++ other_half m.kind.mode log
    → ((last : Event) → length (past ++ last ∷ []) ≤ length log) → AreHandedOver past
    → Completes m log (past ++ with_next (unwished_next m.kind m.object (situation m past) e) e ∷ [])
release_completes m past e log kind legal may stays told few all =
    let x = unwished_next m.kind m.object (situation m past) e in
    let allowed : IsAllowed m past (with_next x e) =
    chosen_allowed m (situation m past) e false WishEntry (legal_order m past kind legal) may
    (release_right m past e stays) in
    record {
      legal = legal-push m past (with_next x e) legal allowed;
      erases = grind (arith, nat_tests, erasure-push, erased_with_next);
      few = few (with_next x e);
      handed = handed-push past (with_next x e) all (λ some. no_enter (with_next x e) (release_is_no_enter x e stays));
      last_choice = λ before last y is chose. last_chosen m past before e last y stays is chose;
    }

-- ---- whole logs

with_half : (m : Monitor) (log more : List LogLine) → other_half m.kind.mode log ≡ more
    → log ++ more ≡ log ++ other_half m.kind.mode log
with_half m log more h = grind arith

whole : (m : Monitor) (log : List LogLine) → other_half m.kind.mode log ≡ [] → log ≡ log ++ other_half m.kind.mode log
whole m log h = sym (append-nil log) ∙ with_half m log [] h

-- the log of a legal history is whole
history_whole : (m : Monitor) (h : List Event) → IsLegal m h → other_half m.kind.mode (erasure h) ≡ []
history_whole m h = history_induction (λ x. IsLegal m x → other_half m.kind.mode (erasure x) ≡ [])
    (λ l. never m.kind.mode)
    (λ x e more l. ap (other_half m.kind.mode) (erasure-push x e)
    ∙ event_whole m.kind.mode (erasure x) e (legal_last m x e l).offered) h

settled_completes : (m : Monitor) (past : List Event) → IsLegal m past
    → ((before : List Event) (e : Event) → past ≡ before ++ e ∷ [] → next_of e ≡ None) → AreHandedOver past
    → Completes m (erasure past) (past ++ [])
settled_completes m past legal known all =
    subst (Completes m (erasure past)) (sym (append-nil past)) (record {
      legal = legal;
      erases = whole m (erasure past) (history_whole m past legal);
      few = few_events past;
      handed = all;
      last_choice = λ before e x is chose. let none : next_of e ≡ None = known before e is in absurd cc;
    })

half_told : (m : Monitor) (past : List Event) (s c : ℕ) (log : List LogLine)
    → MayCall m past (event.SignalLeave s c Stay)
    → erasure past ++ Signal s c ∷ [] ≡ log
    → erasure past ++ erasure_of (event.SignalLeave s c Stay) ≡ log ++ other_half m.kind.mode log
half_told m past s c log may told =
    sym (append_assoc (erasure past) (Signal s c ∷ []) (Leave s ∷ []))
    ∙ ap (λ (x : List LogLine). x ++ Leave s ∷ []) told
    ∙ with_half m log (Leave s ∷ [])
    (subst (λ (x : List LogLine). other_half m.kind.mode x ≡ Leave s ∷ []) told
    (signal_half m.kind.mode (erasure past) s c may.offered))

pub tells_completes : (m : Monitor) (log : List LogLine) (past : List Event) (p : Pending) → IsKind m.kind
    → Tells m log past p
    → Completes m log (past ++ last_events m.kind m.object (situation m past) p)
tells_completes m log past Settled kind t =
    subst (λ (x : List LogLine). Completes m x (past ++ [])) (sym (append-nil (erasure past)) ∙ t.told)
    (settled_completes m past t.legal t.still t.handed)
tells_completes m log past (Half s c) kind t =
    release_completes m past (event.SignalLeave s c Stay) log kind t.legal t.still refl
    (half_told m past s c log t.still t.told)
    (λ last. one_more past last (Signal s c ∷ []) log t.told (omega arith)) t.handed
tells_completes m log past (Release e) kind t =
    release_completes m past e log kind t.legal t.still.0 t.still.1
    (t.told ∙ whole m log (subst (λ (x : List LogLine). other_half m.kind.mode x ≡ []) t.told
    (event_whole m.kind.mode (erasure past) e t.still.0.offered)))
    (λ last. one_more past last (erasure_of e) log t.told (some_line e)) t.handed
