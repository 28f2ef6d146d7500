-- What a release chooses
use Rattle.std.specs.Prelude.{◌≡◌, Bool}
use Rattle.monk_kinds.specs.declared.mode.{Rules.Rules, Pick.Pick}
use Rattle.monk_object.specs.Object.{Object}
use Rattle.monk_history.specs.Meaning.{Reasons.IsAllowed, Release.with_next, Release.choice_of}
use Rattle.monk_history.specs.declared.event.{Event.Event, Next.Next, Next.TheVariants.Stay}
use Rattle.monk_floor.specs.{Grown.IsGrown, View.FloorView, View.monitor_of, View.stands_of}

-- the choice by the wish rules. The event is allowed with it
pub record IsChosen (k : Rules) (o : Object) (f : FloorView) (e : Event) (known : Bool) (pick : Pick)
    (next : Next) : Type 0 where
  pub choice : next ≡ choice_of k o (stands_of k o f) e known pick
  pub allowed : IsAllowed (monitor_of k o f) f.history (with_next next e)

-- the floor has made this release: the wish rules choose who goes on, and the history has grown by exactly the event
-- with that choice
pub record HasChosen (k : Rules) (o : Object) (old : FloorView) (release : Next → Event) (known : Bool) (pick : Pick)
    (next : Next) (new : FloorView) : Type 0 where
  pub choice : next ≡ choice_of k o (stands_of k o old) (release Stay) known pick
  pub grown : IsGrown k o old (release next) new
