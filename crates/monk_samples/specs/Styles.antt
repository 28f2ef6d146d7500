-- How a seat waits and signals under each mode
use Rattle.std.specs.Prelude.{◌≡◌, ℕ, ◌+◌, ◌<◌, ◌≤◌, ◌&&◌, not, Bool, true, false, List, [], ◌∷◌, length, if◌then◌else◌}
use Rattle.atomic_table.specs.Seated.{TableId}
use Rattle.monk_kinds.specs.declared.mode.{Pick.Pick, Pick.TheVariants.Waiter, Rules.Rules}
use Rattle.monk_object.specs.Object.{Object}
use Rattle.monk_history.specs.Meaning.{Conditions.condition, Counts.left_of, Monitor.data_of, Signallers.is_empty}
use Rattle.monk_history.specs.Meaning.Events.{has_conditions, has_signaller_queue, returns_at_once}
use Rattle.monk_history.specs.declared.event.Next.TheVariants.{Stay}
use Rattle.monk_history.specs.declared.event.Event.{Event}
use Rattle.monk_history.specs.declared.event.Event.TheVariants.{Enter, Act, Leave, Wait, Signal, SignalLeave, Until}
use Rattle.monk_history.specs.declared.event.Event.TheVariants.{Resume, SignalAll, SignalWait}
use Rattle.monk_floor.specs.View.{monitor_of}
use Rattle.monk_hall.specs.{Layout.floor_of, Tells.SeesTruly, declared.setting.Setting.Setting}
use Rattle.monk_hall.specs.Tokens.{Token, Holder}
use Rattle.monk_samples.specs.Asked.{IsCall, AreCalls}
use Rattle.monk_samples.specs.declared.end.End.{End, TheVariants.Done, TheVariants.Tired, TheVariants.Late}
use Rattle.monk_samples.specs.Trails.{Addition, HasCalled, inside, outside}

-- a hall has at least `most` conditions, if its kind has any
abbrev pub Offers : Rules → ℕ → ℕ → Type 0
Offers k conds most = has_conditions k.mode ≡ true → most ≤ conds

-- the active seat of this hall may name the condition when it goes out
abbrev pub MayFinish : Rules → TableId → Holder → ℕ → Type 0
MayFinish k hall a c = (a.hall ≡ hall) × Offers k a.me.setting.conds (c + 1)

-- and it may name the condition and the predicate when it pauses
abbrev pub MayPause : Rules → TableId → Holder → ℕ → ℕ → ℕ → Type 0
MayPause k hall a c predicates p = MayFinish k hall a c × (p < predicates)

-- whether somebody waits on a condition. Under a kind that has none, nobody does
abbrev pub has_waiting : Rules → ℕ → List Event → Bool
has_waiting k c h = has_conditions k.mode && not (is_empty (condition c h))

-- the call by which a seat pauses
abbrev pub pause_call : Rules → ℕ → ℕ → ℕ → Event
pause_call k s c p = if has_conditions k.mode then Wait s c Stay else Until s p Stay

-- the calls by which it goes out and lets a seat of the condition go on
abbrev pub way_out : Rules → ℕ → ℕ → List Event
way_out k s c =
    if has_signaller_queue k.mode then Signal s c Stay ∷ Leave s Stay ∷ []
    else if returns_at_once k.mode then SignalLeave s c Stay ∷ []
    else Leave s Stay ∷ []

-- how many events a seat must have left for a call after which it stays active: one for it and one to leave. An event
-- is always kept for a call by which the seat leaves
abbrev pub for_staying : ℕ
for_staying = 2

-- and for a call that may hand the monitor over: one more, to come in again
abbrev pub for_handing_over : ℕ
for_handing_over = 3

-- how many events a seat must have left for a call
abbrev pub needed_for : Event → ℕ
needed_for (Enter s via) = for_staying
needed_for (Act s op r) = for_staying
needed_for (SignalAll s c) = for_staying
needed_for (Wait s c x) = for_handing_over
needed_for (Signal s c x) = for_handing_over
needed_for (SignalWait s c d x) = for_handing_over
needed_for (Until s p x) = for_handing_over
needed_for (Leave s x) = 0
needed_for (SignalLeave s c x) = 0
needed_for (Resume s q) = 0

-- how many it must have left for the first of these calls
abbrev pub needed_first : List Event → ℕ
needed_first [] = 0
needed_first (e ∷ es) = needed_for e

-- the seat has fewer than `needed` events left after this history
abbrev pub IsShort : Setting → ℕ → List Event → ℕ → Type 0
IsShort c s h needed = left_of c.budget h s < needed

-- the seat of a token has at most one event left
abbrev pub IsSpent : Token → Type 0
IsSpent p = p.me.setting.budget ≤ length p.me.mine + 1

-- the seat had three events left, has paused by this call, with that wish, and is active again
pub record HasPaused (k : Rules) (o : Object) (wish : Pick) (a : Holder) (call : Event) (b : Holder) : Type 0 where
  pub room : length a.me.mine + 3 ≤ a.me.setting.budget
  pub pause : Addition
  pub called : HasCalled (inside a) (inside b) (pause ∷ [])
  pub is : IsCall k o wish a.me.setting call pause
  pub at : pause.before ≡ a.floor.history
  pub floor : a.floor ≡ floor_of a.me.setting a.floor.history

-- the predicate holds for the data that the active seat finds
abbrev pub Holds : Rules → Object → ℕ → Holder → Type 0
Holds k o p a = o.holds (data_of (monitor_of k o a.floor) a.floor.history) p ≡ true

-- under an automatic kind the predicate holds for the seat
abbrev pub HoldsByKind : Rules → Object → ℕ → Holder → Type 0
HoldsByKind k o p a = has_conditions k.mode ≡ false → Holds k o p a

-- the seat has gone out by these calls, with that wish
pub record HasGoneBy (k : Rules) (o : Object) (wish : Pick) (a : Holder) (calls : List Event) (p : Token) : Type 0 where
  pub made : List Addition
  pub called : HasCalled (inside a) (outside p) made
  pub are : AreCalls k o wish a.me.setting calls made
  pub told : SeesTruly k o p.me

-- the seat had fewer events left than it needs for its next call. It has left instead, with the wish for a waiter
pub record HasGivenUp (k : Rules) (o : Object) (needed : ℕ) (a : Holder) (p : Token) : Type 0 where
  pub short : IsShort a.me.setting a.me.seat a.floor.history needed
  pub counted : a.me.setting.budget < length a.me.mine + needed
  pub leave : Addition
  pub called : HasCalled (inside a) (outside p) (leave ∷ [])
  pub is : IsCall k o Waiter a.me.setting (Leave a.me.seat Stay) leave
  pub at : leave.before ≡ a.floor.history
  pub floor : a.floor ≡ floor_of a.me.setting a.floor.history
  pub spent : IsSpent p
  pub told : SeesTruly k o p.me

-- the seat has gone out by these calls, or it is tired and has not made them. Only a kind with a signaller queue
-- needs more than the event that is always kept for the way out
abbrev pub HasFinished : Rules → Object → Pick → Holder → List Event → Token → End → Type 0
HasFinished k o wish a calls p Done = HasGoneBy k o wish a calls p
HasFinished k o wish a calls p Tired = (has_signaller_queue k.mode ≡ true) × HasGivenUp k o (needed_first calls) a p
HasFinished k o wish a calls p Late = ⊥

-- the same for a way out that other kinds have too
abbrev pub HasGoneOut : Rules → Object → Pick → Holder → List Event → Token → End → Type 0
HasGoneOut k o wish a calls p Done = HasGoneBy k o wish a calls p
HasGoneOut k o wish a calls p Tired = HasGivenUp k o (needed_first calls) a p
HasGoneOut k o wish a calls p Late = ⊥
