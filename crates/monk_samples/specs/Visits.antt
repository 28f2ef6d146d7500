-- What a member does in the monitor
use Rattle.std.specs.Prelude.{◌≡◌, ℕ, zero, suc, ◌<◌, ◌≤◌, ◌⊎◌, true, false, Option, Some, None, List, [], ◌∷◌, ◌++◌, length, if◌then◌else◌}
use Rattle.monk_kinds.specs.declared.mode.{Pick.Pick, Pick.TheVariants.Entry, Pick.TheVariants.Waiter, Rules.Rules}
use Rattle.monk_object.specs.{Object.Object, declared.op.Op.Op}
use Rattle.monk_history.specs.Meaning.{Events.has_conditions, Monitor.data_of}
use Rattle.monk_history.specs.declared.event.Next.TheVariants.{Stay}
use Rattle.monk_history.specs.declared.event.Event.{Event}
use Rattle.monk_history.specs.declared.event.Event.TheVariants.{Act, Leave, SignalAll, SignalWait}
use Rattle.monk_floor.specs.View.{monitor_of}
use Rattle.monk_hall.specs.{Layout.floor_of, Tells.SeesTruly, declared.setting.Setting.Setting}
use Rattle.monk_hall.specs.Tokens.{Token, Holder}
use Rattle.monk_samples.specs.Asked.{IsCall, AreCalls}
use Rattle.monk_samples.specs.Styles.{Holds, IsShort, IsSpent, for_handing_over, for_staying, needed_first, pause_call}
use Rattle.monk_samples.specs.Styles.{way_out}
use Rattle.monk_samples.specs.declared.end.End.{End, TheVariants.Done, TheVariants.Tired, TheVariants.Late}
use Rattle.monk_samples.specs.declared.manner.Manner.{Manner, TheVariants.Patient, TheVariants.Hasty}
use Rattle.monk_samples.specs.Trails.{Addition, Trail, HasCalled, after, inside, outside}

-- for what a visit pauses: the condition on which it waits if the predicate is false
pub record Guard : Type 0 where
  pub cond : ℕ
  pub pred : ℕ
  pub manner : Manner

-- a guard whose visit waits as long as it must
abbrev pub guard : ℕ → ℕ → Guard
guard cond pred = record { cond = cond; pred = pred; manner = Patient }

-- a guard whose visit waits once
abbrev pub hasty_guard : ℕ → ℕ → Guard
hasty_guard cond pred = record { cond = cond; pred = pred; manner = Hasty }

-- for whom a visit of that manner wishes
abbrev pub wish_of : Manner → Pick
wish_of Patient = Waiter
wish_of Hasty = Entry

-- for whom a visit with that guard wishes
abbrev pub wish_in : Option Guard → Pick
wish_in None = Waiter
wish_in (Some w) = wish_of w.manner

-- how a visit goes out: without a signal; with a signal of a condition; with a signal to all who wait there; or with
-- a signal of the first condition and a wait on the second, after which it leaves
pub data WayOut : Type 0 where
  Unsignalled : WayOut
  Signals : ℕ → WayOut
  SignalsAll : ℕ → WayOut
  SignalsAndWaits : ℕ → ℕ → WayOut

-- one visit as it is planned: what it first pauses for, if for anything; its operation; and its way out, by the
-- history after that
pub record Plan : Type 0 where
  pub guard : Option Guard
  pub op : Op
  pub goes_out : List Event → WayOut

-- an operation by its parts
abbrev pub op_of : ℕ → ℕ → Op
op_of code arg = record { code = code; arg = arg }

-- a visit that pauses for a predicate, in a manner
abbrev pub in_manner : Manner → ℕ → ℕ → Op → (List Event → WayOut) → Plan
in_manner m cond pred op goes_out =
    record { guard = Some (record { cond = cond; pred = pred; manner = m }); op = op; goes_out = goes_out }

-- a visit that pauses until a predicate holds
abbrev pub when : ℕ → ℕ → Op → (List Event → WayOut) → Plan
when cond pred op goes_out = in_manner Patient cond pred op goes_out

-- a hasty visit
abbrev pub hastily : ℕ → ℕ → Op → (List Event → WayOut) → Plan
hastily cond pred op goes_out = in_manner Hasty cond pred op goes_out

-- a visit that waits for nothing
abbrev pub at_once : Op → (List Event → WayOut) → Plan
at_once op goes_out = record { guard = None; op = op; goes_out = goes_out }

-- a way out that always signals that condition
abbrev pub always : ℕ → List Event → WayOut
always cond h = Signals cond

-- a way out that signals nobody
abbrev pub nobody : List Event → WayOut
nobody h = Unsignalled

-- the data after a history
abbrev pub data_after : Rules → Object → Setting → List Event → List ℕ
data_after k o c h = data_of (monitor_of k o (floor_of c h)) h

-- each is a pause of seat s for this guard, and the predicate was false when it paused
abbrev pub ArePauses : Rules → Object → Setting → ℕ → Guard → List Addition → Type 0
ArePauses k o c s w [] = Unit {0}
ArePauses k o c s w (d ∷ ds) =
    IsCall k o (wish_of w.manner) c (pause_call k s w.cond w.pred) d
    × (o.holds (data_after k o c d.before) w.pred ≡ false) × ArePauses k o c s w ds

-- a hasty visit pauses at most once
abbrev pub AreFew : Manner → List Addition → Type 0
AreFew Patient ds = Unit {0}
AreFew Hasty ds = length ds ≤ 1

-- these are all the pauses of a visit with that guard
abbrev pub HasPausedFor : Rules → Object → Setting → ℕ → Option Guard → List Addition → Type 0
HasPausedFor k o c s None ds = ds ≡ []
HasPausedFor k o c s (Some w) ds = ArePauses k o c s w ds × AreFew w.manner ds

-- seat s does this operation, and the reply is the object's
pub record IsAct (k : Rules) (o : Object) (c : Setting) (s : ℕ) (op : Op) (reply : ℕ) (d : Addition) : Type 0 where
  pub is : d.event ≡ Act s op reply
  pub replied : reply ≡ o.reply (data_after k o c d.before) op

-- an operation for which a visit paused isn't refused
abbrev pub IsCertain : Option Guard → ℕ → Type 0
IsCertain None reply = Unit {0}
IsCertain (Some w) reply = 0 < reply

-- the calls by which a seat goes out
abbrev pub calls_out : Rules → ℕ → WayOut → List Event
calls_out k s Unsignalled = Leave s Stay ∷ []
calls_out k s (Signals cond) = way_out k s cond
calls_out k s (SignalsAll cond) = SignalAll s cond ∷ Leave s Stay ∷ []
calls_out k s (SignalsAndWaits cond wait_cond) = SignalWait s cond wait_cond Stay ∷ Leave s Stay ∷ []

-- the pauses and the operation of a visit
pub record IsDone (k : Rules) (o : Object) (c : Setting) (s : ℕ) (v : Plan) (pauses : List Addition)
    (act : Addition) : Type 0 where
  pub paused : HasPausedFor k o c s v.guard pauses
  pub reply : ℕ
  pub acts : IsAct k o c s v.op reply act
  pub certain : IsCertain v.guard reply

-- these calls of seat s are one try of the visit, to its end
pub record IsTry (k : Rules) (o : Object) (c : Setting) (s : ℕ) (v : Plan) (calls : List Addition) : Type 0 where
  pub pauses : List Addition
  pub act : Addition
  pub out : List Addition
  pub are : calls ≡ pauses ++ act ∷ out
  pub done : IsDone k o c s v pauses act
  pub goes : AreCalls k o (wish_in v.guard) c (calls_out k s (v.goes_out (after act))) out

-- what a seat needs for its next call before it has acted: for its operation or, while the predicate is false, for
-- its next pause
abbrev pub needed_yet : Rules → Object → Setting → Option Guard → List Event → ℕ
needed_yet k o c None h = for_staying
needed_yet k o c (Some w) h = if o.holds (data_after k o c h) w.pred then for_staying else for_handing_over

-- these calls of seat s pause for this guard. Then it leaves, because too few events are left for its next pause or
-- its operation
pub record IsLeftWaiting (k : Rules) (o : Object) (c : Setting) (s : ℕ) (guard : Option Guard)
    (calls : List Addition) : Type 0 where
  pub pauses : List Addition
  pub leave : Addition
  pub are : calls ≡ pauses ++ leave ∷ []
  pub paused : HasPausedFor k o c s guard pauses
  pub leaves : IsCall k o Waiter c (Leave s Stay) leave
  pub short : IsShort c s leave.before (needed_yet k o c guard leave.before)

-- these calls pause and do the operation. Then the seat leaves without a signal, because too few events are left for
-- the first call of its way out. A leave always has its event
pub record IsLeftUnsaid (k : Rules) (o : Object) (c : Setting) (s : ℕ) (v : Plan) (calls : List Addition) : Type 0 where
  pub pauses : List Addition
  pub act : Addition
  pub leave : Addition
  pub are : calls ≡ pauses ++ act ∷ leave ∷ []
  pub done : IsDone k o c s v pauses act
  pub leaves : IsCall k o Waiter c (Leave s Stay) leave
  pub short : IsShort c s leave.before (needed_first (calls_out k s (v.goes_out (after act))))

-- the calls of a seat that was tired before it acted: it did not come in, or it left instead of its next pause or its
-- operation
abbrev pub IsUnready : Rules → Object → Setting → ℕ → Option Guard → List Addition → Type 0
IsUnready k o c s guard calls = (calls ≡ []) ⊎ IsLeftWaiting k o c s guard calls

-- these calls of seat s are one try of the visit, which ended with `end`
abbrev pub IsTried : Rules → Object → Setting → ℕ → Plan → End → List Addition → Type 0
IsTried k o c s v Done calls = IsTry k o c s v calls
IsTried k o c s v Tired calls = IsUnready k o c s v.guard calls ⊎ IsLeftUnsaid k o c s v calls
IsTried k o c s v Late calls = ⊥

-- first these calls and then those
pub record Then (First Rest : List Addition → Type 0) (calls : List Addition) : Type 0 where
  pub first : List Addition
  pub rest : List Addition
  pub are : calls ≡ first ++ rest
  pub is_first : First first
  pub is_rest : Rest rest

-- a try whose operation was refused, after which the seat left without a signal. It had paused, and so was woken: if
-- the predicate holds at once, the operation isn't refused. Under an automatic kind there is no such try, because a
-- seat that goes on there finds its predicate true
pub record IsMiss (k : Rules) (o : Object) (c : Setting) (s : ℕ) (v : Plan) (calls : List Addition) : Type 0 where
  pub pauses : List Addition
  pub act : Addition
  pub leave : Addition
  pub are : calls ≡ pauses ++ act ∷ leave ∷ []
  pub paused : HasPausedFor k o c s v.guard pauses
  pub acts : IsAct k o c s v.op 0 act
  pub leaves : IsCall k o (wish_in v.guard) c (Leave s Stay) leave
  pub woken : pauses ≡ [] → ⊥
  pub signalled : has_conditions k.mode ≡ true

-- these calls are n tries that missed
abbrev pub AreMisses : Rules → Object → Setting → ℕ → Plan → ℕ → List Addition → Type 0
AreMisses k o c s v zero calls = calls ≡ []
AreMisses k o c s v (suc n) calls = Then (AreMisses k o c s v n) (IsMiss k o c s v) calls

-- only a hasty visit is tried again if its operation was refused
abbrev pub MissesIn : Manner → ℕ → Type 0
MissesIn Patient n = n ≡ 0
MissesIn Hasty n = Unit {0}

-- how many tries of a visit may miss
abbrev pub Misses : Option Guard → ℕ → Type 0
Misses None n = n ≡ 0
Misses (Some w) n = MissesIn w.manner n

-- these calls of seat s are the visit, which ended with `end`: the tries that missed, and a last one
pub record IsVisitTo (k : Rules) (o : Object) (c : Setting) (s : ℕ) (v : Plan) (end : End)
    (calls : List Addition) : Type 0 where
  pub misses : ℕ
  pub may : Misses v.guard misses
  pub tries : Then (AreMisses k o c s v misses) (IsTried k o c s v end) calls

-- these calls are a whole visit
abbrev pub IsVisit : Rules → Object → Setting → ℕ → Plan → List Addition → Type 0
IsVisit k o c s v calls = IsVisitTo k o c s v Done calls

-- these calls are a visit that ended early, because its seat was tired
abbrev pub IsCutShort : Rules → Object → Setting → ℕ → Plan → List Addition → Type 0
IsCutShort k o c s v calls = IsVisitTo k o c s v Tired calls

-- these calls are the visits, each once, in order: to the end of the last, or of one that was cut short
abbrev pub AreVisits : Rules → Object → Setting → ℕ → End → List Plan → List Addition → Type 0
AreVisits k o c s Done [] calls = calls ≡ []
AreVisits k o c s Done (v ∷ vs) calls = Then (IsVisit k o c s v) (AreVisits k o c s Done vs) calls
AreVisits k o c s Tired [] calls = ⊥
AreVisits k o c s Tired (v ∷ vs) calls = IsCutShort k o c s v calls
    ⊎ Then (IsVisit k o c s v) (AreVisits k o c s Tired vs) calls
AreVisits k o c s Late vs calls = ⊥

-- a member was called with p and returns q. This is the same seat, outside again, which has made the calls of these
-- visits and no others. It is tired only if at most one event is left. What it has seen is legal, and its own events
-- in that are those that it knows
pub record HasVisited (k : Rules) (o : Object) (p : Token) (plans : List Plan) (q : Token) (end : End) : Type 0 where
  pub calls : List Addition
  pub called : HasCalled (outside p) (outside q) calls
  pub are : AreVisits k o p.me.setting p.me.seat end plans calls
  pub spent : end ≡ Tired → IsSpent q
  pub told : SeesTruly k o q.me

-- a member was called with p and has tried a visit once, which ended with `end`
pub record HasTried (k : Rules) (o : Object) (p : Token) (v : Plan) (q : Token) (end : End) : Type 0 where
  pub calls : List Addition
  pub called : HasCalled (outside p) (outside q) calls
  pub are : IsTried k o p.me.setting p.me.seat v end calls
  pub spent : end ≡ Tired → IsSpent q
  pub told : SeesTruly k o q.me

-- it has tried a visit `misses` times and missed, and is outside with fewer events left
pub record HasMissed (k : Rules) (o : Object) (p : Token) (v : Plan) (misses : ℕ) (q : Token) : Type 0 where
  pub calls : List Addition
  pub called : HasCalled (outside p) (outside q) calls
  pub are : AreMisses k o p.me.setting p.me.seat v misses calls

-- a seat was tired: it has made such calls from x on, and is outside
pub record HasTired (k : Rules) (o : Object) (x : Trail) (AreThese : List Addition → Type 0) (q : Token) : Type 0 where
  pub calls : List Addition
  pub called : HasCalled x (outside q) calls
  pub are : AreThese calls
  pub spent : IsSpent q
  pub told : SeesTruly k o q.me

-- the seat came in for this guard, and left before it acted
abbrev pub IsTiredWithin : Rules → Object → Holder → Option Guard → Token → Type 0
IsTiredWithin k o a w q = HasTired k o (inside a) (IsLeftWaiting k o a.me.setting a.me.seat w) q

-- the seat came in for this guard and left before it acted, or it did not come in
abbrev pub IsTiredFor : Rules → Object → Token → Option Guard → Token → Type 0
IsTiredFor k o p w q = HasTired k o (outside p) (IsUnready k o p.me.setting p.me.seat w) q

-- the seat did not come in
pub record HasStayedOut (k : Rules) (o : Object) (p q : Token) : Type 0 where
  pub same : q ≡ p
  pub spent : IsSpent q
  pub told : SeesTruly k o q.me

-- from x on the seat has paused for this guard, and is active
pub record HasPausedUntil (k : Rules) (o : Object) (x : Trail) (guard : Option Guard) (b : Holder) : Type 0 where
  pub pauses : List Addition
  pub called : HasCalled x (inside b) pauses
  pub paused : HasPausedFor k o x.setting x.seat guard pauses

-- from x on the seat has looked once, in haste, and is active. If it has not paused, the predicate holds
pub record HasLooked (k : Rules) (o : Object) (x : Trail) (cond pred : ℕ) (b : Holder) : Type 0 where
  pub paused : HasPausedUntil k o x (Some (hasty_guard cond pred)) b
  pub found : paused.pauses ≡ [] → Holds k o pred b

-- from x on the seat has paused for this guard and then done the operation, with this reply, and is still active
pub record HasActed (k : Rules) (o : Object) (x : Trail) (guard : Option Guard) (op : Op) (reply : ℕ)
    (b : Holder) : Type 0 where
  pub pauses : List Addition
  pub act : Addition
  pub called : HasCalled x (inside b) (pauses ++ act ∷ [])
  pub paused : HasPausedFor k o x.setting x.seat guard pauses
  pub acts : IsAct k o x.setting x.seat op reply act
  pub last : b.floor.history ≡ after act
  pub floor : b.floor ≡ floor_of x.setting b.floor.history

-- from x on the seat has looked once and asked for the operation. If it has not paused, the operation wasn't refused
pub record HasActedInHaste (k : Rules) (o : Object) (x : Trail) (cond pred : ℕ) (op : Op) (reply : ℕ)
    (b : Holder) : Type 0 where
  pub acted : HasActed k o x (Some (hasty_guard cond pred)) op reply b
  pub done : acted.pauses ≡ [] → 0 < reply

-- a predicate promises an operation: if it holds, the operation isn't refused
abbrev pub Promises : Object → ℕ → Op → Type 0
Promises o pred op = (state : List ℕ) → o.holds state pred ≡ true → 0 < o.reply state op
