-- How each call of a floor changes its value
use Rattle.std.specs.Prelude.{◌≡◌, [], ◌∷◌, ◌++◌}
use Rattle.monk_kinds.specs.declared.mode.Rules.{Rules}
use Rattle.monk_object.specs.Object.{Object}
use Rattle.monk_history.specs.{Meaning.Reasons.IsAllowed, declared.event.Event.Event}
use Rattle.monk_floor.specs.View.{FloorView, monitor_of}

-- the history has grown by this event, which is allowed after it, and nothing else has changed
pub record IsGrown (k : Rules) (o : Object) (old : FloorView) (e : Event) (new : FloorView) : Type 0 where
  pub allowed : IsAllowed (monitor_of k o old) old.history e
  pub grown : new ≡ record old { history = old.history ++ e ∷ [] }
