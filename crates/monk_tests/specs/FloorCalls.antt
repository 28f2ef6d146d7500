-- What the contracts in the tests of floors use
use Rattle.std.specs.Prelude.{◌≡◌, ℕ, ◌<◌}
use Rattle.monk_kinds.specs.declared.mode.Rules.{Rules}
use Rattle.monk_object.specs.Names.{meaning_named, opening_named}
use Rattle.monk_object.specs.declared.name.ObjectName.TheVariants.{Buffer}
use Rattle.monk_history.specs.Meaning.Counts.{left_of}
use Rattle.monk_history.specs.Meaning.Events.{seat_of}
use Rattle.monk_history.specs.Meaning.Reasons.{IsAllowed}
use Rattle.monk_history.specs.declared.event.Event.{Event}
use Rattle.monk_floor.specs.View.{FloorView, monitor_of}

-- a floor with these numbers of seats and conditions, over a buffer of that size that was empty at first
pub record IsRoom (seats conds size : ℕ) (f : FloorView) : Type 0 where
  pub seats_are : f.seats ≡ seats
  pub conds_are : f.conds ≡ conds
  pub opens : f.opening ≡ opening_named Buffer size

-- the event is allowed after the history of a floor over a buffer
abbrev pub IsAllowedOn : Rules → FloorView → Event → Type 0
IsAllowedOn k f e = IsAllowed (monitor_of k (meaning_named Buffer) f) f.history e

-- the event is allowed, and its seat has an event left
pub record MayCome (k : Rules) (f : FloorView) (e : Event) : Type 0 where
  pub allowed : IsAllowedOn k f e
  pub within : seat_of e < f.seats
  pub left : 0 < left_of f.budget f.history (seat_of e)
