-- The choice by the path of a mode, with what a floor keeps
use Rattle.std.proofs.Common.{◌≡◌, ℕ, Bool, true, false, Option, List, ◌++◌, refl, sym, ap, subst, ◌∙◌, arith}
use Rattle.std.proofs.{lemmas.Bool.Decides.nat_tests, Common.rules}
use Rattle.std.specs.Prelude.{slice_get, nat_le}
use Rattle.monk_kinds.specs.declared.mode.{Rules.Rules, Pick.Pick}
use Rattle.monk_kinds.specs.declared.mode.Mode.TheVariants.{Blocking, NonBlocking, QuasiBlocking, Automatic}
use Rattle.monk_kinds.specs.Kind.{IsKind}
use Rattle.monk_history.proofs.PublicLaws.Meaning.{non_blocking, blocking, quasi_blocking, waiter_path, ready_path}
use Rattle.monk_history.proofs.PublicLaws.Meaning.{signaller_path, served_path, equal_path, signal_stays}
use Rattle.monk_history.specs.Meaning.{Monitor.Monitor, Situation.situation, Waiters.serves, Signallers.signals}
use Rattle.monk_history.specs.Meaning.{Untils.ready_of, Choice.must_stay, Release.MayCall, Release.choice_of}
use Rattle.monk_history.specs.Meaning.Events.{seat_of, has_conditions}
use Rattle.monk_history.specs.Meaning.Paths.{keeps_signallers, single_choice, equal_choice, served_choice}
use Rattle.monk_history.specs.declared.event.{Turn.Turn, Event.Event, Event.TheVariants.Signal}
use Rattle.monk_history.specs.declared.event.Next.{Next, TheVariants.Stay}
use Rattle.monk_history.specs.declared.event.From3.TheVariants.{Waiter as FromWaiter, Signaller as FromSignaller}
use Rattle.monk_history.specs.declared.event.From3.TheVariants.{Until as FromUntil}
use Rattle.monk_floor.proofs.ChoiceLaws.{kept_stay, kept_allowed, stays_is}
use Rattle.monk_floor.specs.{Chosen.IsChosen, Ready.stays_by, View.FloorView, View.monitor_of, Kept.KeepsHistory}
use Rattle.monk_floor.specs.Releases.{IsReplyless, MakesNoSignaller, ServesNobody}
use Rattle.monk_floor.specs.Queues.{QueueLists, queue_at}

abbrev pub view : Monitor → ℕ → List Event → FloorView
view m budget h = record { opening = m.opening; seats = m.seats; conds = m.conds; budget = budget; history = h }

module _ {m : Monitor} {budget : ℕ} {h : List Event} {capacity : ℕ} {q : QueueLists} {state : List ℕ} {turn : Turn}
    {inside : List Bool} {spent granted : List ℕ} {entered : ℕ} where
  -- a choice by the wish rules is allowed
  pub chosen_here : KeepsHistory m budget h capacity q state turn inside spent granted entered → IsKind m.kind
      → (f : FloorView) → view m budget h ≡ f → (e : Event) (known : Bool) (wish : Pick) (n : Next)
      → MayCall (monitor_of m.kind m.object f) f.history e → IsReplyless m.object e
      → n ≡ choice_of m.kind m.object (situation m h) e known wish → IsChosen m.kind m.object f e known wish n
  chosen_here kept k f v e known wish n a r x =
      subst (λ (y : FloorView). MayCall (monitor_of m.kind m.object y) y.history e
      → IsChosen m.kind m.object y e known wish n) v
      (λ c. record { choice = x; allowed = kept_allowed kept k e known wish n c r x }) a

  -- an event that must stay stays
  pub stay_here : KeepsHistory m budget h capacity q state turn inside spent granted entered → IsKind m.kind
      → (f : FloorView) → view m budget h ≡ f → (e : Event) (known : Bool) (wish : Pick)
      → MayCall (monitor_of m.kind m.object f) f.history e → IsReplyless m.object e → (b : Bool)
      → b ≡ stays_by m.object (queue_at q.conditions) state e → b ≡ true
      → IsChosen m.kind m.object f e known wish Stay
  stay_here kept k f v e known wish a r b x y = search (rules, chosen_here, kept_stay)

  goes_on : KeepsHistory m budget h capacity q state turn inside spent granted entered → (e : Event) (b : Bool)
      → b ≡ stays_by m.object (queue_at q.conditions) state e → b ≡ false → must_stay m.object (situation m h) e ≡ false
  goes_on kept e b x y = grind (arith, nat_tests, stays_is)

  pub waiter_here : KeepsHistory m budget h capacity q state turn inside spent granted entered → IsKind m.kind
      → (f : FloorView) → view m budget h ≡ f → (e : Event) (known : Bool) (wish : Pick)
      → MayCall (monitor_of m.kind m.object f) f.history e → MakesNoSignaller m.object e
      → has_conditions m.kind.mode ≡ true → keeps_signallers m.kind.mode ≡ false
      → (k : Rules) (front : Option ℕ) (n : Next) → k ≡ m.kind
      → front ≡ slice_get (q.waiters ++ serves (queue_at q.conditions) e) 0
      → n ≡ single_choice FromWaiter (nat_le k.waiter k.entry) front known wish
      → IsChosen m.kind m.object f e known wish n
  waiter_here kept i f v e known wish a r x y k front n b c d =
      chosen_here kept i f v e known wish n a r.replyless
      (d ∙ ((λ j. single_choice FromWaiter (nat_le (b j).waiter (b j).entry)
      ((c ∙ ap (λ t. slice_get (t.waiters ++ serves t.condition e) 0) kept.stands) j) known wish)
      ∙ waiter_path m h e known wish i kept.legal x y (r.chooses (situation m h))
      (r.signals (situation m h).condition)))

  pub signaller_here : KeepsHistory m budget h capacity q state turn inside spent granted entered → IsKind m.kind
      → (f : FloorView) → view m budget h ≡ f → (e : Event) (known : Bool) (wish : Pick)
      → MayCall (monitor_of m.kind m.object f) f.history e → ServesNobody m.object e → m.kind.mode ≡ Blocking
      → (k : Rules) (front : Option ℕ) (n : Next) → k ≡ m.kind
      → front ≡ slice_get (q.signallers ++ signals (queue_at q.conditions) e) 0
      → n ≡ single_choice FromSignaller (nat_le k.signaller k.entry) front known wish
      → IsChosen m.kind m.object f e known wish n
  signaller_here kept i f v e known wish a r x k front n b c d =
      chosen_here kept i f v e known wish n a r.replyless
      (d ∙ ((λ j. single_choice FromSignaller (nat_le (b j).signaller (b j).entry)
      ((c ∙ ap (λ t. slice_get (t.signallers ++ signals t.condition e) 0) kept.stands) j) known wish)
      ∙ signaller_path m h e known wish (blocking m.kind i x) kept.legal
      (subst (λ (y : FloorView). MayCall (monitor_of m.kind m.object y) y.history e) (sym v) a)
      (r.chooses (situation m h)) (r.serves (situation m h).condition) (r.signals (situation m h).condition)))

  pub equal_here : KeepsHistory m budget h capacity q state turn inside spent granted entered → IsKind m.kind
      → (f : FloorView) → view m budget h ≡ f → (e : Event) (known : Bool) (wish : Pick)
      → MayCall (monitor_of m.kind m.object f) f.history e → IsReplyless m.object e → m.kind.mode ≡ QuasiBlocking
      → (z : Bool) → z ≡ stays_by m.object (queue_at q.conditions) state e → z ≡ false
      → (k : Rules) (w g : Option ℕ) (caller : ℕ) (n : Next) → k ≡ m.kind
      → w ≡ slice_get (q.waiters ++ serves (queue_at q.conditions) e) 0
      → g ≡ slice_get (q.signallers ++ signals (queue_at q.conditions) e) 0
      → caller ≡ seat_of e → n ≡ equal_choice (nat_le k.waiter k.entry) w g caller known wish
      → IsChosen m.kind m.object f e known wish n
  equal_here kept i f v e known wish a r x z zs zf k w g caller n b c d u y =
      chosen_here kept i f v e known wish n a r
      (y ∙ ((λ j. equal_choice (nat_le (b j).waiter (b j).entry)
      ((c ∙ ap (λ t. slice_get (t.waiters ++ serves t.condition e) 0) kept.stands) j)
      ((d ∙ ap (λ t. slice_get (t.signallers ++ signals t.condition e) 0) kept.stands) j) (u j) known wish)
      ∙ equal_path m h e known wish (quasi_blocking m.kind i x) (goes_on kept e z zs zf)))

  pub ready_here : KeepsHistory m budget h capacity q state turn inside spent granted entered → IsKind m.kind
      → (f : FloorView) → view m budget h ≡ f → (e : Event) (known : Bool) (wish : Pick)
      → MayCall (monitor_of m.kind m.object f) f.history e → IsReplyless m.object e → m.kind.mode ≡ Automatic
      → (z : Bool) → z ≡ stays_by m.object (queue_at q.conditions) state e → z ≡ false
      → (k : Rules) (front : Option ℕ) (n : Next) → k ≡ m.kind → front ≡ slice_get (ready_of m.object state q.untils) 0
      → n ≡ single_choice FromUntil (nat_le k.waiter k.entry) front known wish
      → IsChosen m.kind m.object f e known wish n
  ready_here kept i f v e known wish a r x z zs zf k front n b c d =
      chosen_here kept i f v e known wish n a r
      (d ∙ ((λ j. single_choice FromUntil (nat_le (b j).waiter (b j).entry)
      ((c ∙ ap (λ t. slice_get (ready_of m.object t.state t.untils) 0) kept.stands) j) known wish)
      ∙ ready_path m h e known wish kept.legal (ap has_conditions x)
      (subst (λ (y : FloorView). MayCall (monitor_of m.kind m.object y) y.history e) (sym v) a)
      (goes_on kept e z zs zf)))

  pub served_here : KeepsHistory m budget h capacity q state turn inside spent granted entered → IsKind m.kind
      → (f : FloorView) → view m budget h ≡ f → (s c : ℕ) (known : Bool) (wish : Pick)
      → MayCall (monitor_of m.kind m.object f) f.history (Signal s c Stay) → m.kind.mode ≡ Blocking
      → (front : Option ℕ) (n : Next) → front ≡ slice_get (queue_at q.conditions c) 0 → n ≡ served_choice front
      → IsChosen m.kind m.object f (Signal s c Stay) known wish n
  served_here kept i f v s c known wish a x front n b d =
      chosen_here kept i f v (Signal s c Stay) known wish n a (λ y. refl)
      (d ∙ (ap served_choice (b ∙ ap (λ t. slice_get (t.condition c) 0) kept.stands)
      ∙ served_path m h s c Stay known wish (blocking m.kind i x) kept.legal))

  pub staying_here : KeepsHistory m budget h capacity q state turn inside spent granted entered → IsKind m.kind
      → (f : FloorView) → view m budget h ≡ f → (s c : ℕ) (known : Bool) (wish : Pick)
      → MayCall (monitor_of m.kind m.object f) f.history (Signal s c Stay) → m.kind.mode ≡ NonBlocking
      → IsChosen m.kind m.object f (Signal s c Stay) known wish Stay
  staying_here kept i f v s c known wish a x = search (rules, chosen_here, signal_stays, non_blocking)
