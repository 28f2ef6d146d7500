-- The choice by the path of a mode is the choice by the wish rules
use Rattle.std.proofs.Common.{◌≡◌, ℕ, Bool, true, false, cond, List, [], ◌∷◌, ◌++◌}
use Rattle.std.proofs.Common.{take, refl, sym, ap, ◌∙◌, arith}
use Rattle.std.proofs.lemmas.Bool.{false≢true, Decides.nat_tests}
use Rattle.std.specs.Prelude.{nat_le, slice_get}
use Rattle.monk_kinds.specs.declared.mode.{Rules.Rules, Mode.Mode, Mode.TheVariants.Blocking}
use Rattle.monk_kinds.specs.declared.mode.{Mode.TheVariants.NonBlocking, Mode.TheVariants.QuasiBlocking}
use Rattle.monk_kinds.specs.declared.mode.{Mode.TheVariants.ImmediateReturn, Mode.TheVariants.Automatic, Pick.Pick}
use Rattle.monk_kinds.specs.Kind.{IsKind}
use Rattle.monk_history.proofs.MeaningLaws.{ReleaseLaws.caller_apart, StandingLaws.legal_placed}
use Rattle.monk_history.proofs.MeaningLaws.{QueueCounts.times-append}
use Rattle.monk_history.proofs.MeaningLaws.QueueSeats.{front_absent, legal_sorted, sorted_queues}
use Rattle.monk_history.proofs.MeaningLaws.ModeLaws.{IsNonBlocking, non_blocking, legal_alone, IsBlocking}
use Rattle.monk_history.proofs.MeaningLaws.ModeLaws.{legal_emptied, legal_unsignalled}
use Rattle.monk_history.specs.Meaning.{Monitor.Monitor, Situation.situation, Waiters.serves, Untils.ready_of}
use Rattle.monk_history.specs.Meaning.{Standing.times, Release.MayCall, Release.choice_of, Legal.IsLegal}
use Rattle.monk_history.specs.Meaning.{Signallers.is_empty, Signallers.signals, Wish.choice_by}
use Rattle.monk_history.specs.Meaning.Events.{seat_of, has_conditions, has_signaller_queue}
use Rattle.monk_history.specs.Meaning.Choice.{Queues, queues_at, is_front, must_stay}
use Rattle.monk_history.specs.Meaning.Paths.{keeps_signallers, single_choice, equal_choice, served_choice}
use Rattle.monk_history.specs.declared.event.{Next.Next, Next.TheVariants.Stay, Event.Event, Event.TheVariants.Signal}
use Rattle.monk_history.specs.declared.event.From3.TheVariants.{Waiter as FromWaiter, Signaller as FromSignaller}
use Rattle.monk_history.specs.declared.event.From3.TheVariants.{Until as FromUntil}

-- a choice by what it reads of the queues
stay_choice : (k : Rules) (ws ss rs : List ℕ) (s : ℕ) (b : Bool) (known : Bool) (wish : Pick) → IsNonBlocking k
    → ss ≡ []
    → Stay ≡ cond b Stay (choice_by k
    (record { waiters = ws; signallers = ss ++ cond b [] (s ∷ []); ready = rs }) s known wish)
stay_choice k ws ss rs s b known wish n e = grind (arith, nat_tests)

-- under a non-blocking kind a signal stays
pub signal_stays : (m : Monitor) (h : List Event) (s c : ℕ) (x : Next) (known : Bool) (wish : Pick)
    → IsNonBlocking m.kind → IsLegal m h
    → Stay ≡ choice_of m.kind m.object (situation m h) (Signal s c x) known wish
signal_stays m h s c x known wish n l = grind (arith, nat_tests, stay_choice, legal_alone)

single_waiter : (k : Rules) (q : Queues) (s : ℕ) (known : Bool) (wish : Pick) → has_conditions k.mode ≡ true
    → q.signallers ≡ []
    → choice_by k q s known wish ≡ single_choice FromWaiter (nat_le k.waiter k.entry) (slice_get q.waiters 0) known wish
single_waiter k q s known wish h e = grind (arith, nat_tests)

single_ready : (k : Rules) (q : Queues) (s : ℕ) (known : Bool) (wish : Pick) → has_conditions k.mode ≡ false
    → q.signallers ≡ []
    → choice_by k q s known wish ≡ single_choice FromUntil (nat_le k.waiter k.entry) (slice_get q.ready 0) known wish
single_ready k q s known wish h e = grind (arith, nat_tests)

single_signaller : (k : Rules) (q : Queues) (s : ℕ) (known : Bool) (wish : Pick) → has_conditions k.mode ≡ true
    → q.waiters ≡ [] → is_front s q.signallers ≡ false
    → choice_by k q s known wish ≡ single_choice FromSignaller (nat_le k.signaller k.entry)
    (slice_get q.signallers 0) known wish
single_signaller k q s known wish h e f = grind (arith, nat_tests)

-- a kind that gives the signaller and the seat that it serves one priority
pub record IsQuasiBlocking (k : Rules) : Type 0 where
  pub conditions : has_conditions k.mode ≡ true
  pub equal : k.waiter ≡ k.signaller

pub quasi_blocking : (k : Rules) → IsKind k → k.mode ≡ QuasiBlocking → IsQuasiBlocking k
quasi_blocking k i e = grind (arith, nat_tests)

equal_both : (k : Rules) (q : Queues) (s : ℕ) (known : Bool) (wish : Pick) → IsQuasiBlocking k
    → choice_by k q s known wish ≡ equal_choice (nat_le k.waiter k.entry) (slice_get q.waiters 0)
    (slice_get q.signallers 0) s known wish
equal_both k q s known wish n = grind (arith, nat_tests)

-- an event that need not stay chooses by the wish rules
chosen_by : (m : Monitor) (h : List Event) (e : Event) (known : Bool) (wish : Pick) (n : Next)
    → must_stay m.object (situation m h) e ≡ false
    → choice_by m.kind (queues_at m.object (situation m h) e) (seat_of e) known wish ≡ n
    → n ≡ choice_of m.kind m.object (situation m h) e known wish
chosen_by m h e known wish n b c = cc

by_mode : (m : Monitor) (h : List Event) → IsKind m.kind → IsLegal m h → (x : Mode) → m.kind.mode ≡ x
    → keeps_signallers x ≡ false → (situation m h).signallers ≡ []
by_mode m h i l Blocking e f = absurd (false≢true (sym f))
by_mode m h i l NonBlocking e f = legal_alone m h (non_blocking m.kind i e) l
by_mode m h i l QuasiBlocking e f = absurd (false≢true (sym f))
by_mode m h i l ImmediateReturn e f = legal_unsignalled m h (ap has_signaller_queue e) l
by_mode m h i l Automatic e f = legal_unsignalled m h (ap has_signaller_queue e) l

-- if nobody is kept as a signaller, a release that makes none looks only at the waiter queue
pub waiter_path : (m : Monitor) (h : List Event) (e : Event) (known : Bool) (wish : Pick) → IsKind m.kind → IsLegal m h
    → has_conditions m.kind.mode ≡ true → keeps_signallers m.kind.mode ≡ false
    → must_stay m.object (situation m h) e ≡ false → signals (situation m h).condition e ≡ []
    → single_choice FromWaiter (nat_le m.kind.waiter m.kind.entry)
    (slice_get ((situation m h).waiters ++ serves (situation m h).condition e) 0) known wish ≡ choice_of m.kind
    m.object (situation m h) e known wish
waiter_path m h e known wish i l c f b z =
    chosen_by m h e known wish _ b
    (single_waiter m.kind (queues_at m.object (situation m h) e) (seat_of e) known wish c
    (ap (λ xs. xs ++ signals (situation m h).condition e) (by_mode m h i l m.kind.mode refl f) ∙ z))

-- under an automatic kind a release looks only at the ready seats
pub ready_path : (m : Monitor) (h : List Event) (e : Event) (known : Bool) (wish : Pick) → IsLegal m h
    → has_conditions m.kind.mode ≡ false → MayCall m h e
    → must_stay m.object (situation m h) e ≡ false
    → single_choice FromUntil (nat_le m.kind.waiter m.kind.entry)
    (slice_get (ready_of m.object (situation m h).state (situation m h).untils) 0) known wish ≡ choice_of m.kind
    m.object (situation m h) e known wish
ready_path m h e known wish l c a b =
    chosen_by m h e known wish _ b
    (single_ready m.kind (queues_at m.object (situation m h) e) (seat_of e) known wish c
    ((sorted_queues m.kind m.object (situation m h) e (legal_sorted m h l) a.offered).signallers c))

-- under a blocking kind a release that serves nobody looks only at the signallers
pub signaller_path : (m : Monitor) (h : List Event) (e : Event) (known : Bool) (wish : Pick) → IsBlocking m.kind
    → IsLegal m h → MayCall m h e
    → must_stay m.object (situation m h) e ≡ false → serves (situation m h).condition e ≡ []
    → signals (situation m h).condition e ≡ []
    → single_choice FromSignaller (nat_le m.kind.signaller m.kind.entry)
    (slice_get ((situation m h).signallers ++ signals (situation m h).condition e) 0) known wish ≡ choice_of m.kind
    m.object (situation m h) e known wish
signaller_path m h e known wish n l a b y z =
    let t = situation m h in
    chosen_by m h e known wish _ b
    (single_signaller m.kind (queues_at m.object t e) (seat_of e) known wish n.conditions
    (ap (λ xs. xs ++ serves t.condition e) (legal_emptied m h n l) ∙ y)
    (front_absent (seat_of e) (t.signallers ++ signals t.condition e)
    (omega (
      arith,
      times-append (seat_of e) t.signallers (signals t.condition e),
      ap (times (seat_of e)) z,
      (caller_apart m t e (legal_placed m h l) a.in_turn a.in_place).signallers,
    ))))

served_case : (k : Rules) (ws qs ss rs : List ℕ) (s : ℕ) (known : Bool) (wish : Pick) → IsBlocking k → ws ≡ []
    → served_choice (slice_get qs 0) ≡ cond (is_empty qs) Stay
    (choice_by k (record {
      waiters = ws ++ take 1 qs;
      signallers = ss ++ cond (is_empty qs) [] (s ∷ []);
      ready =
          rs;
    }) s known wish)
served_case k ws qs ss rs s known wish n e = grind (arith, nat_tests)

-- under a blocking kind a signal hands over to the seat that it serves
pub served_path : (m : Monitor) (h : List Event) (s c : ℕ) (x : Next) (known : Bool) (wish : Pick)
    → IsBlocking m.kind → IsLegal m h
    → served_choice (slice_get ((situation m h).condition c) 0)
    ≡ choice_of m.kind m.object (situation m h) (Signal s c x) known wish
served_path m h s c x known wish n l = grind (arith, nat_tests, served_case, legal_emptied)

-- under a quasi-blocking kind waiters and signallers have one priority
pub equal_path : (m : Monitor) (h : List Event) (e : Event) (known : Bool) (wish : Pick) → IsQuasiBlocking m.kind
    → must_stay m.object (situation m h) e ≡ false
    → equal_choice (nat_le m.kind.waiter m.kind.entry)
    (slice_get ((situation m h).waiters ++ serves (situation m h).condition e) 0)
    (slice_get ((situation m h).signallers ++ signals (situation m h).condition e) 0) (seat_of e) known
    wish ≡ choice_of m.kind m.object (situation m h) e known wish
equal_path m h e known wish n b = grind (arith, nat_tests, chosen_by, equal_both)
