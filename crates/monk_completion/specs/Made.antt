-- The object of a log's header, when it is made
use Rattle.std.specs.Prelude.{◌≡◌, ◌≤◌, ◌<◌, ℕ, List, Result, Ok, Err}
use Rattle.monk_object.specs.{Names.meaning_named, Names.most, Names.opening_named, Object.Object}
use Rattle.monk_object.specs.declared.fault.ObjectFault.{ObjectFault, TheVariants.Size, TheVariants.Memory}
use Rattle.monk_logs.specs.Log.{LogHeading}

-- an object with this meaning and this view of its states was made as the header names it; or else why not
abbrev pub IsMadeAs : {X : Type 0} → LogHeading → Object → (X → List ℕ) → Result X ObjectFault → Type 0
IsMadeAs h o state (Ok x) =
    (o ≡ meaning_named h.object) × (state x ≡ opening_named h.object h.size) × (h.size ≤ most h.object)
IsMadeAs h o state (Err Size) = most h.object < h.size
IsMadeAs h o state (Err Memory) = h.size ≤ most h.object
