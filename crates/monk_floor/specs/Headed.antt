-- A floor and the header that names its monitor
use Rattle.std.specs.Prelude.{◌≡◌, List}
use Rattle.monk_kinds.specs.Names.{rules_named}
use Rattle.monk_object.specs.Names.{meaning_named, opening_named}
use Rattle.monk_history.specs.{Text.Heading, declared.event.Event.Event}
use Rattle.monk_history.specs.Meaning.{Legal.IsLegal, Named.named_monitor}
use Rattle.monk_floor.specs.View.{FloorView, monitor_of}

-- the header has the floor's numbers, and its object opens as the floor's did
pub record IsHeadedBy (f : FloorView) (h : Heading) : Type 0 where
  pub opening : f.opening ≡ opening_named h.object h.size
  pub seats : f.seats ≡ h.seats
  pub conds : f.conds ≡ h.conds

-- what is legal for a floor is legal for the monitor that its header names
abbrev pub LegalAsHeaded : Type 0
LegalAsHeaded = (h : Heading) (f : FloorView) (history : List Event) → IsHeadedBy f h
    → IsLegal (monitor_of (rules_named h.kind) (meaning_named h.object) f) history → IsLegal (named_monitor h) history
