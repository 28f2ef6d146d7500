-- The state that a judge shows
use Rattle.std.specs.Prelude.{◌≡◌, ◌⊎◌, ℕ, ◌<◌, List, Option, Result, MatchResult, slice_index_or, length, Some, None}
use Rattle.monk_object.specs.Object.{Object}
use Rattle.monk_logs.specs.declared.text.line.LogLine.{LogLine}
use Rattle.monk_logs.specs.declared.text.line.LogLine.TheVariants.{Enter, Resume, Lapse, Leave, Wait, Signal, Broadcast}
use Rattle.monk_logs.specs.declared.text.line.LogLine.TheVariants.{Until, Act}
use Rattle.monk_judge.specs.declared.told.Told.TheVariants as told
use Rattle.monk_judge.specs.{Blamed.IsBlamed, Counts.Names, Ends.ResumesBy, Ends.ends_after, Ends.runs_out}
use Rattle.monk_judge.specs.{Judged.CanStand, Judged.IsRight, Judged.after_all, Judged.steps_at, Run.Setting, Run.State}
use Rattle.monk_judge.specs.declared.{blame.Blame.Blame, blame.Blame.TheVariants.Reply, told.Told.Told, step.Step.Step}
use Rattle.monk_judge.specs.declared.place.Place.{Place, TheVariants.Outside, TheVariants.Waiting}
use Rattle.monk_judge.specs.declared.wait_end.WaitEnd.{WaitEnd, TheVariants.Resumes}

-- what a judge holds; for each waiting thread, `ends` has how its wait ends
pub record Shown : Type 0 where
  pub conds : ℕ
  pub lock : Option ℕ
  pub places : List Place
  pub ends : List WaitEnd
  pub data_now : List ℕ

-- what a judge with these parts shows
abbrev pub shown : ℕ → Option ℕ → List Place → List WaitEnd → List ℕ → Shown
shown conds lock places ends d = record { conds = conds; lock = lock; places = places; ends = ends; data_now = d }

-- the state of a judge
abbrev pub state_of : Shown → State
state_of v = record { lock = v.lock; place = λ s. slice_index_or v.places s Outside; data_now = v.data_now }

-- the setting of a judge, over that object
abbrev pub setting_of : Shown → Object → Setting
setting_of v o = record { seats = length v.places; conds = v.conds; object = o }

-- a thread is at that place
pub record IsThere (places : List Place) (p : Place) : Type 0 where
  pub seat : ℕ
  pub within : seat < length places
  pub there : slice_index_or places seat Outside ≡ p

-- the thread that a signal woke
abbrev pub whom : Told → Option ℕ
whom told.Plain = None
whom told.Passed = None
whom told.Unheard = None
whom (told.Woke s) = Some s
whom (told.WokeAll n) = None
whom told.Spurious = None

-- if the wait of seat i ends by a `resume`, that of seat j ends by one that is no later
abbrev pub ResumesNoLater : Shown → ℕ → ℕ → Type 0
ResumesNoLater v j i = (line : ℕ) → ResumesBy (slice_index_or v.ends i (Resumes 0)) line
    → ResumesBy (slice_index_or v.ends j (Resumes 0)) line

-- of the threads with a lower seat than n that sleep on the condition it is the one that comes back first
abbrev pub IsFirstBelow : ℕ → Shown → ℕ → Option ℕ → Type 0
IsFirstBelow n v c None = (i : ℕ) → i < n → slice_index_or v.places i Outside ≡ Waiting c → ⊥
IsFirstBelow n v c (Some j) = (j < n) × (slice_index_or v.places j Outside ≡ Waiting c)
    × ((i : ℕ) → i < n → slice_index_or v.places i Outside ≡ Waiting c
    → ResumesNoLater v j i × (i < j → ResumesNoLater v i j → ⊥))

-- no thread that sleeps on the condition comes back before seat j, and none of a lower seat as early
abbrev pub IsEarliest : Shown → ℕ → Option ℕ → Type 0
IsEarliest v c None = Unit {0}
IsEarliest v c (Some j) = (i : ℕ) → slice_index_or v.places i Outside ≡ Waiting c
    → ResumesNoLater v j i × (i < j → ResumesNoLater v i j → ⊥)

-- a signal wakes the thread that comes back first
abbrev pub WakesEarliest : Shown → LogLine → Option ℕ → Type 0
WakesEarliest v (Enter s) w = Unit {0}
WakesEarliest v (Resume s) w = Unit {0}
WakesEarliest v (Lapse s) w = Unit {0}
WakesEarliest v (Leave s) w = Unit {0}
WakesEarliest v (Wait s c) w = Unit {0}
WakesEarliest v (Signal s c) w = IsEarliest v c w
WakesEarliest v (Broadcast s c) w = Unit {0}
WakesEarliest v (Until s p) w = Unit {0}
WakesEarliest v (Act s op r) w = Unit {0}

-- the steps of a line that told that
abbrev pub own_steps : Shown → LogLine → WaitEnd → Told → List Step
own_steps v l e what = steps_at (state_of v) l (whom what) (runs_out e)

-- the line can follow, and its steps lead to the new state
pub record Takes (o : Object) (old new : Shown) (l : LogLine) (e : WaitEnd) (what : Told) : Type 0 where
  pub stands : CanStand (setting_of old o) (state_of old) l
  pub right : IsRight (state_of old) l (whom what)
  pub earliest : WakesEarliest old l (whom what)
  pub leads : state_of new ≡ after_all (setting_of old o) (state_of old) (own_steps old l e what)
  pub setting : setting_of new o ≡ setting_of old o
  pub ends : new.ends ≡ ends_after old.ends l e
  pub names : Names (setting_of old o) (state_of old) (own_steps old l e what) what

-- or it can't follow, for that reason, and nobody moves; only an operation that was tried may have changed the object
pub record Refuses (o : Object) (old new : Shown) (l : LogLine) (why : Blame) : Type 0 where
  pub not_there : CanStand (setting_of old o) (state_of old) l → ⊥
  pub blamed : IsBlamed (setting_of old o) (state_of old) l why
  pub lock : new.lock ≡ old.lock
  pub places : new.places ≡ old.places
  pub ends : new.ends ≡ old.ends
  pub object : (why ≡ Reply) ⊎ (new.data_now ≡ old.data_now)

-- the one or the other
abbrev pub Does : Object → Shown → Shown → LogLine → WaitEnd → Result Told Blame → Type 0
Does o old new l e result = MatchResult result (λ what. Takes o old new l e what) (λ why. Refuses o old new l why)
