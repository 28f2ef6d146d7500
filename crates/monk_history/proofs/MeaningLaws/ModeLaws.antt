-- What a mode does to the choice
use Rattle.std.proofs.Common.{◌≡◌, ◌<◌, ◌≤◌, true, false, List, []}
use Rattle.std.proofs.{Common.ap, Common.arith, lemmas.Bool.Decides.nat_tests}
use Rattle.monk_kinds.specs.declared.mode.{Rules.Rules, Mode.TheVariants.Blocking, Mode.TheVariants.NonBlocking}
use Rattle.monk_kinds.specs.Kind.{IsKind}
use Rattle.monk_history.proofs.MeaningLaws.{StepLaws.situation-none, QueueSeats.legal_induction}
use Rattle.monk_history.specs.Meaning.{Monitor.Monitor, Step.after, Reasons.IsAllowedIn, Legal.IsLegal}
use Rattle.monk_history.specs.Meaning.Events.{has_conditions, has_signaller_queue, returns_at_once, is_non_blocking}
use Rattle.monk_history.specs.Meaning.Situation.{Situation, situation}
use Rattle.monk_history.specs.declared.event.Event.{Event}

-- the rules of a non-blocking kind
pub record IsNonBlocking (k : Rules) : Type 0 where
  pub conditions : has_conditions k.mode ≡ true
  pub entry_waiter : k.entry ≤ k.waiter
  pub waiter_signaller : k.waiter < k.signaller

pub non_blocking : (k : Rules) → IsKind k → k.mode ≡ NonBlocking → IsNonBlocking k
non_blocking k i e = grind (arith, nat_tests)

alone_after : (m : Monitor) (t : Situation) (e : Event) → IsNonBlocking m.kind → t.signallers ≡ [] → IsAllowedIn m t e
    → (after m.object t e).signallers ≡ []
alone_after m t e n h a = grind (arith, nat_tests)

-- under a non-blocking kind nobody is in the signaller queue between two events
pub legal_alone : (m : Monitor) (h : List Event) → IsNonBlocking m.kind → IsLegal m h → (situation m h).signallers ≡ []
legal_alone m h n l =
    legal_induction m (λ t. t.signallers ≡ []) (ap (λ t. t.signallers) (situation-none m))
    (λ t e s a. alone_after m t e n s a) h l

-- the rules of a blocking kind
pub record IsBlocking (k : Rules) : Type 0 where
  pub conditions : has_conditions k.mode ≡ true
  pub returns_not : returns_at_once k.mode ≡ false
  pub goes_on_not : is_non_blocking k.mode ≡ false
  pub entry_signaller : k.entry ≤ k.signaller
  pub signaller_waiter : k.signaller < k.waiter

pub blocking : (k : Rules) → IsKind k → k.mode ≡ Blocking → IsBlocking k
blocking k i e = grind (arith, nat_tests)

emptied_after : (m : Monitor) (t : Situation) (e : Event) → IsBlocking m.kind → t.waiters ≡ [] → IsAllowedIn m t e
    → (after m.object t e).waiters ≡ []
emptied_after m t e n h a = grind (arith, nat_tests)

-- under a blocking kind nobody is in the waiter queue between two events
pub legal_emptied : (m : Monitor) (h : List Event) → IsBlocking m.kind → IsLegal m h → (situation m h).waiters ≡ []
legal_emptied m h n l =
    legal_induction m (λ t. t.waiters ≡ []) (ap (λ t. t.waiters) (situation-none m))
    (λ t e s a. emptied_after m t e n s a) h l

-- if there is no signaller queue, nobody is ever in it
unsignalled_after : (m : Monitor) (t : Situation) (e : Event) → has_signaller_queue m.kind.mode ≡ false
    → t.signallers ≡ [] → IsAllowedIn m t e → (after m.object t e).signallers ≡ []
unsignalled_after m t e n h a = grind (arith, nat_tests)

pub legal_unsignalled : (m : Monitor) (h : List Event) → has_signaller_queue m.kind.mode ≡ false → IsLegal m h
    → (situation m h).signallers ≡ []
legal_unsignalled m h n l =
    legal_induction m (λ t. t.signallers ≡ []) (ap (λ t. t.signallers) (situation-none m))
    (λ t e s a. unsignalled_after m t e n s a) h l
