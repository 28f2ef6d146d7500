-- Why a line can't stand: the first of the reasons that applies
use Rattle.std.specs.Prelude.{◌≡◌, ◌<◌, Some, None}
use Rattle.monk_logs.specs.declared.text.line.LogLine.{LogLine}
use Rattle.monk_logs.specs.declared.text.line.LogLine.TheVariants.{Enter, Resume, Lapse, Leave, Wait, Signal, Broadcast}
use Rattle.monk_logs.specs.declared.text.line.LogLine.TheVariants.{Until, Act}
use Rattle.monk_judge.specs.declared.blame.Blame.TheVariants as blame
use Rattle.monk_judge.specs.{Judged.CanResume, Run.HasRunOut, Run.MaySignal, Run.Setting, Run.State}
use Rattle.monk_judge.specs.declared.{blame.Blame.Blame, place.Place.TheVariants.Outside}

-- its seat, condition and code are the header's
abbrev pub IsInRange : Setting → LogLine → Type 0
IsInRange m (Enter s) = s < m.seats
IsInRange m (Resume s) = s < m.seats
IsInRange m (Lapse s) = s < m.seats
IsInRange m (Leave s) = s < m.seats
IsInRange m (Wait s c) = (s < m.seats) × (c < m.conds)
IsInRange m (Signal s c) = (s < m.seats) × (c < m.conds)
IsInRange m (Broadcast s c) = (s < m.seats) × (c < m.conds)
IsInRange m (Until s p) = Unit {0}
IsInRange m (Act s op r) = (s < m.seats) × (op.code < m.object.codes)

-- it is a call of a mutex
abbrev pub IsOffered : LogLine → Type 0
IsOffered (Enter s) = Unit {0}
IsOffered (Resume s) = Unit {0}
IsOffered (Lapse s) = Unit {0}
IsOffered (Leave s) = Unit {0}
IsOffered (Wait s c) = Unit {0}
IsOffered (Signal s c) = Unit {0}
IsOffered (Broadcast s c) = Unit {0}
IsOffered (Until s p) = ⊥
IsOffered (Act s op r) = Unit {0}

-- the lock is free if its thread takes it
abbrev pub FindsFree : State → LogLine → Type 0
FindsFree x (Enter s) = x.lock ≡ None
FindsFree x (Resume s) = x.lock ≡ None
FindsFree x (Lapse s) = x.lock ≡ None
FindsFree x (Leave s) = Unit {0}
FindsFree x (Wait s c) = Unit {0}
FindsFree x (Signal s c) = Unit {0}
FindsFree x (Broadcast s c) = Unit {0}
FindsFree x (Until s p) = Unit {0}
FindsFree x (Act s op r) = Unit {0}

-- its thread has the lock if it needs that
abbrev pub HasLock : Setting → State → LogLine → Type 0
HasLock m x (Enter s) = Unit {0}
HasLock m x (Resume s) = Unit {0}
HasLock m x (Lapse s) = Unit {0}
HasLock m x (Leave s) = x.lock ≡ Some s
HasLock m x (Wait s c) = x.lock ≡ Some s
HasLock m x (Signal s c) = MaySignal m x s c
HasLock m x (Broadcast s c) = MaySignal m x s c
HasLock m x (Until s p) = Unit {0}
HasLock m x (Act s op r) = x.lock ≡ Some s

-- its thread is outside if it comes in
abbrev pub IsOut : State → LogLine → Type 0
IsOut x (Enter s) = x.place s ≡ Outside
IsOut x (Resume s) = Unit {0}
IsOut x (Lapse s) = Unit {0}
IsOut x (Leave s) = Unit {0}
IsOut x (Wait s c) = Unit {0}
IsOut x (Signal s c) = Unit {0}
IsOut x (Broadcast s c) = Unit {0}
IsOut x (Until s p) = Unit {0}
IsOut x (Act s op r) = Unit {0}

-- its thread waits if it comes back
abbrev pub WaitsSo : State → LogLine → Type 0
WaitsSo x (Enter s) = Unit {0}
WaitsSo x (Resume s) = CanResume (x.place s)
WaitsSo x (Lapse s) = HasRunOut (x.place s)
WaitsSo x (Leave s) = Unit {0}
WaitsSo x (Wait s c) = Unit {0}
WaitsSo x (Signal s c) = Unit {0}
WaitsSo x (Broadcast s c) = Unit {0}
WaitsSo x (Until s p) = Unit {0}
WaitsSo x (Act s op r) = Unit {0}

-- the object replies so
abbrev pub RepliesSo : Setting → State → LogLine → Type 0
RepliesSo m x (Enter s) = Unit {0}
RepliesSo m x (Resume s) = Unit {0}
RepliesSo m x (Lapse s) = Unit {0}
RepliesSo m x (Leave s) = Unit {0}
RepliesSo m x (Wait s c) = Unit {0}
RepliesSo m x (Signal s c) = Unit {0}
RepliesSo m x (Broadcast s c) = Unit {0}
RepliesSo m x (Until s p) = Unit {0}
RepliesSo m x (Act s op r) = r ≡ m.object.reply x.data_now op

-- what the reason names doesn't hold, and what is tested before it holds
abbrev pub IsBlamed : Setting → State → LogLine → Blame → Type 0
IsBlamed m x l blame.Range = IsInRange m l → ⊥
IsBlamed m x l blame.Call = IsOffered l → ⊥
IsBlamed m x l blame.Held = IsInRange m l × (FindsFree x l → ⊥)
IsBlamed m x l blame.NoLock = IsInRange m l × (HasLock m x l → ⊥)
IsBlamed m x l blame.Asleep = IsInRange m l × FindsFree x l × (IsOut x l → ⊥)
IsBlamed m x l blame.Awake = IsInRange m l × FindsFree x l × (WaitsSo x l → ⊥)
IsBlamed m x l blame.Reply = IsInRange m l × HasLock m x l × (RepliesSo m x l → ⊥)
