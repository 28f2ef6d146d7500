-- Signals that nobody sent, though somebody should have
use Rattle.std.specs.Prelude.{◌≡◌, ℕ, ◌<◌, ◌==◌, ◌||◌, ◌⊎◌, Bool, true, false, not, List, Option, Some, None, length}
use Rattle.std.specs.List.{All, Any}
use Rattle.monk_object.specs.Object.{Object}
use Rattle.monk_logs.specs.declared.text.line.LogLine.{LogLine}
use Rattle.monk_logs.specs.declared.text.line.LogLine.TheVariants.{Enter, Resume, Lapse, Leave, Wait, Signal, Broadcast}
use Rattle.monk_logs.specs.declared.text.line.LogLine.TheVariants.{Until, Act}
use Rattle.monk_judge.specs.{Among.NamesFirst, Moments.Moment, Moments.moment, Run.State}
use Rattle.monk_judge.specs.declared.{missed.Missed.Missed, waits_for.WaitsFor.WaitsFor}
use Rattle.monk_judge.specs.declared.place.Place.TheVariants.{Waiting, Woken}

-- the object has the predicate, and it holds
abbrev pub Holds : Object → List ℕ → ℕ → Type 0
Holds o d p = (p < o.predicates) × (o.holds d p ≡ true)

-- all predicates hold that are given for the condition
abbrev pub AllHold : Object → List WaitsFor → List ℕ → ℕ → Type 0
AllHold o means d c = All (λ w. w.cond ≡ c → Holds o d w.pred) means

-- a thread sleeps on the condition, and none is woken there
pub record IsUnsignalled (x : State) (c : ℕ) : Type 0 where
  pub sleeper : ℕ
  pub sleeps : x.place sleeper ≡ Waiting c
  pub none_woken : (j : ℕ) → x.place j ≡ Woken c → ⊥

-- some condition with predicates is without a signal, and all its predicates hold
abbrev pub LacksSignal : Object → List WaitsFor → State → Type 0
LacksSignal o means x = Any (λ w. IsUnsignalled x w.cond × AllHold o means x.data_now w.cond) means

-- whether a thread lets the lock go with the line
abbrev pub frees_lock : LogLine → Bool
frees_lock (Enter s) = false
frees_lock (Resume s) = false
frees_lock (Lapse s) = false
frees_lock (Leave s) = true
frees_lock (Wait s c) = true
frees_lock (Signal s c) = false
frees_lock (Broadcast s c) = false
frees_lock (Until s p) = false
frees_lock (Act s op r) = false

-- whether the lock is that seat's
abbrev pub has_lock : Option ℕ → ℕ → Bool
has_lock None s = false
has_lock (Some h) s = h == s

-- whether the line is a signal of a thread that doesn't have the lock
abbrev pub is_from_outside : Option ℕ → LogLine → Bool
is_from_outside lock (Enter s) = false
is_from_outside lock (Resume s) = false
is_from_outside lock (Lapse s) = false
is_from_outside lock (Leave s) = false
is_from_outside lock (Wait s c) = false
is_from_outside lock (Signal s c) = not (has_lock lock s)
is_from_outside lock (Broadcast s c) = not (has_lock lock s)
is_from_outside lock (Until s p) = false
is_from_outside lock (Act s op r) = false

-- a thread lets the lock go, and then a signal is missing
abbrev pub LacksBehind : Object → List WaitsFor → LogLine → State → Type 0
LacksBehind o means l x = (frees_lock l ≡ true) × LacksSignal o means x

-- the line with index `k` is such a line, and no signal came from outside before it
abbrev pub IsMissedAt : Object → List WaitsFor → List Moment → ℕ → Type 0
IsMissedAt o means all k = LacksBehind o means (moment all k).line (moment all k).behind
    × ((j : ℕ) → j < k → is_from_outside (moment all j).before.lock (moment all j).line ≡ false)

-- it names the first such line
abbrev pub NamesFirstMissed : Object → List WaitsFor → List Moment → Option ℕ → Type 0
NamesFirstMissed o means all found = NamesFirst (λ k. IsMissedAt o means all k) (length all) found

-- what is known of the lines so far after a look at one more line, with index `i` and state `x` after it
pub record LooksAt (o : Object) (means : List WaitsFor) (l : LogLine) (x : State) (i : ℕ)
    (old new : Missed) : Type 0 where
  pub line : ((new.line ≡ old.line) × (old.line ≡ None → old.from_outside ≡ false → LacksBehind o means l x → ⊥))
      ⊎ ((old.line ≡ None) × (old.from_outside ≡ false) × LacksBehind o means l x × (new.line ≡ Some i))
  pub from_outside : new.from_outside ≡ (old.from_outside || is_from_outside x.lock l)
