-- The choice by the fronts of the queues is that by the whole queues
use Rattle.std.proofs.Common.{◌≡◌, ℕ, Bool, true, false, cond, not, ◌&&◌, ◌||◌, ◌==◌, Option, List, ◌++◌, refl}
use Rattle.std.proofs.Common.{sym, ap, subst, ◌∙◌, arith}
use Rattle.std.specs.Prelude.{slice_get, nat_le, if◌then◌else◌}
use Rattle.std.proofs.lemmas.Bool.Decides.{nat_tests}
use Rattle.monk_kinds.specs.{Kind.IsKind, declared.mode.Pick.Pick, declared.mode.Pick.TheVariants.Entry as WishEntry}
use Rattle.monk_kinds.specs.{declared.mode.Pick.TheVariants.Waiter as WishWaiter}
use Rattle.monk_kinds.specs.{declared.mode.Pick.TheVariants.Signaller as WishSignaller, declared.mode.Rules.Rules}
use Rattle.monk_object.specs.{Object.Object, declared.op.Op.Op}
use Rattle.monk_history.proofs.PublicLaws.Meaning.{chosen_allowed}
use Rattle.monk_history.specs.Meaning.{Monitor.Monitor, Situation.Situation, Situation.situation, Waiters.serves}
use Rattle.monk_history.specs.Meaning.{Signallers.is_empty, Signallers.signals, Untils.ready_of, Reasons.is_right_reply}
use Rattle.monk_history.specs.Meaning.{Reasons.IsAllowed, Choice.Queues, Choice.must_stay, Events.seat_of}
use Rattle.monk_history.specs.Meaning.Wish.{inner_waiters, front, waiter_choice, choice_by}
use Rattle.monk_history.specs.Meaning.Release.{MayCall, with_next, choice_of}
use Rattle.monk_history.specs.Just.{just}
use Rattle.monk_history.specs.declared.event.{Event.Event, Event.TheVariants.Act, Turn.Turn}
use Rattle.monk_history.specs.declared.event.Next.{Next, TheVariants.Stay, TheVariants.Entry, TheVariants.Signaller}
use Rattle.monk_floor.{specs.Queues.QueueLists, specs.Queues.queue_at, specs.Kept.shown_situation}
use Rattle.monk_floor.{specs.Kept.KeepsHistory, specs.Ready.stays_by, proofs.KeptLaws.in_order}

-- a choice by what it reads of the queues
abbrev parts : Rules → Bool → Next → Bool → ℕ → ℕ → Bool → Pick → Next
parts k none next empty first s known WishEntry =
    if known && (none || nat_le k.waiter k.entry) && (empty || nat_le k.signaller k.entry) then Entry
    else if none && empty then Entry
    else if not none && (empty || nat_le k.signaller k.waiter) then next
    else if first == s then Stay else Signaller first
parts k none next empty first s known WishWaiter =
    if not none && (empty || nat_le k.signaller k.waiter) then next
    else if none && empty then Entry
    else if not none && (empty || nat_le k.signaller k.waiter) then next
    else if first == s then Stay else Signaller first
parts k none next empty first s known WishSignaller =
    if not empty && (none || nat_le k.waiter k.signaller) then (if first == s then Stay else Signaller first)
    else if none && empty then Entry
    else if not none && (empty || nat_le k.signaller k.waiter) then next
    else if first == s then Stay else Signaller first

parts_are : (k : Rules) (q : Queues) (s : ℕ) (known : Bool) (wish : Pick)
    → choice_by k q s known wish ≡ parts k (is_empty (inner_waiters k q)) (waiter_choice k q) (is_empty q.signallers)
    (front q.signallers) s known wish
parts_are k q s known wish = cc

empty_first : (xs : List ℕ) → is_empty (just (slice_get xs 0)) ≡ is_empty xs
empty_first xs = grind (arith, nat_tests)

front_first : (xs : List ℕ) → front (just (slice_get xs 0)) ≡ front xs
front_first xs = grind (arith, nat_tests)

inner_first : (b : Bool) (ws rs : List ℕ)
    → is_empty (cond b (just (slice_get ws 0)) (just (slice_get rs 0))) ≡ is_empty (cond b ws rs)
inner_first b ws rs = grind (arith, nat_tests)

choice_first : (k : Rules) (ws ss rs : List ℕ) (s : ℕ) (known : Bool) (wish : Pick)
    → choice_by k (record {
      waiters = just (slice_get ws 0);
      signallers = just (slice_get ss 0);
      ready =
          just (slice_get rs 0);
    }) s known wish ≡ choice_by k (record { waiters = ws; signallers = ss; ready = rs }) s known
    wish
choice_first k ws ss rs s known wish = grind (arith, nat_tests, parts_are, inner_first, front_first, empty_first)

pub stays_is : (o : Object) (t : Situation) (e : Event) → stays_by o t.condition t.state e ≡ must_stay o t e
stays_is o t e = refl

chosen_stay : (k : Rules) (o : Object) (t : Situation) (e : Event) (known : Bool) (wish : Pick) (b : Bool)
    → b ≡ stays_by o t.condition t.state e → b ≡ true → Stay ≡ choice_of k o t e known wish
chosen_stay k o t e known wish b f h = cc

chosen_next : (k : Rules) (o : Object) (t : Situation) (e : Event) (known : Bool) (wish : Pick) (b : Bool)
    → b ≡ stays_by o t.condition t.state e → b ≡ false
    → (w s r : Option ℕ) (n : Next) → w ≡ slice_get (t.waiters ++ serves t.condition e) 0
    → s ≡ slice_get (t.signallers ++ signals t.condition e) 0 → r ≡ slice_get (ready_of o t.state t.untils) 0
    → n ≡ choice_by k (record { waiters = just w; signallers = just s; ready = just r }) (seat_of e) known wish
    → n ≡ choice_of k o t e known wish
chosen_next k o t e known wish b f h w s r n x y z c = grind (arith, nat_tests, choice_first, stays_is)

module _ {m : Monitor} {budget : ℕ} {h : List Event} {capacity : ℕ} {q : QueueLists} {state : List ℕ} {turn : Turn}
    {inside : List Bool} {spent granted : List ℕ} {entered : ℕ} where
  pub kept_stay : KeepsHistory m budget h capacity q state turn inside spent granted entered
      → (e : Event) (known : Bool) (wish : Pick) (b : Bool) → b ≡ stays_by m.object (queue_at q.conditions) state e
      → b ≡ true
      → Stay ≡ choice_of m.kind m.object (situation m h) e known wish
  kept_stay kept e known wish b f g =
      chosen_stay m.kind m.object (shown_situation q state turn inside (not (is_empty h))) e known wish b f g
      ∙ ap (λ t. choice_of m.kind m.object t e known wish) kept.stands

  pub kept_next : KeepsHistory m budget h capacity q state turn inside spent granted entered
      → (e : Event) (known : Bool) (wish : Pick) (b : Bool) → b ≡ stays_by m.object (queue_at q.conditions) state e
      → b ≡ false
      → (w s r : Option ℕ) (n : Next) (k : Rules) (v : ℕ)
      → w ≡ slice_get (q.waiters ++ serves (queue_at q.conditions) e) 0
      → s ≡ slice_get (q.signallers ++ signals (queue_at q.conditions) e) 0
      → r ≡ slice_get (ready_of m.object state q.untils) 0
      → k ≡ m.kind → v ≡ seat_of e
      → n ≡ choice_by k (record { waiters = just w; signallers = just s; ready = just r }) v known wish
      → n ≡ choice_of m.kind m.object (situation m h) e known wish
  kept_next kept e known wish b f g w s r n k v x y z a c d =
      chosen_next m.kind m.object (shown_situation q state turn inside (not (is_empty h))) e known wish b f g w
      s r n x y z
      (d ∙ (ap (λ j. choice_by j (record { waiters = just w; signallers = just s; ready = just r }) v known wish) a
      ∙ ap (λ j. choice_by m.kind (record { waiters = just w; signallers = just s; ready = just r }) j known wish)
      c))
      ∙ ap (λ t. choice_of m.kind m.object t e known wish) kept.stands

  pub kept_allowed : KeepsHistory m budget h capacity q state turn inside spent granted entered → IsKind m.kind
      → (e : Event) (known : Bool) (wish : Pick) (n : Next) → MayCall m h e
      → ((d : List ℕ) → is_right_reply m.object d e ≡ true)
      → n ≡ choice_of m.kind m.object (situation m h) e known wish → IsAllowed m h (with_next n e)
  kept_allowed kept k e known wish n c r x =
      subst (λ z. IsAllowed m h (with_next z e)) (sym x)
      (chosen_allowed m (situation m h) e known wish (in_order kept k) c (r _))

  -- an act with the object's reply is allowed
  pub kept_act : KeepsHistory m budget h capacity q state turn inside spent granted entered
      → (s : ℕ) (op : Op) (reply : ℕ) → MayCall m h (Act s op 0) → reply ≡ m.object.reply state op
      → IsAllowed m h (Act s op reply)
  kept_act kept s op reply c r = grind (arith, nat_tests)
