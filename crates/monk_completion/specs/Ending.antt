-- The release at the end of a log, whose choice no line shows
use Rattle.std.specs.Prelude.{false, List, [], ◌∷◌, Option, Some, None}
use Rattle.std.specs.Option.{option_map_or}
use Rattle.monk_kinds.specs.declared.mode.{Pick.TheVariants.Entry as WishEntry, Rules.Rules}
use Rattle.monk_object.specs.Object.{Object}
use Rattle.monk_history.specs.declared.event.Next.TheVariants as next
use Rattle.monk_history.specs.Meaning.{Release.choice_of, Release.with_next, Situation.Situation}
use Rattle.monk_history.specs.declared.event.{Event.Event, Event.TheVariants.SignalLeave, Next.Next}
use Rattle.monk_completion.specs.declared.pending.Pending.{Pending}
use Rattle.monk_completion.specs.declared.pending.Pending.TheVariants.{Settled, Half, Release}

-- the release; if a signal lacks its second line, its caller leaves
abbrev pub last_release : Pending → Option Event
last_release Settled = None
last_release (Half s c) = Some (SignalLeave s c next.Stay)
last_release (Release e) = Some e

-- what a release chooses if nobody wishes for anything
abbrev pub unwished_next : Rules → Object → Situation → Event → Next
unwished_next k o t e = choice_of k o t e false WishEntry

-- the last release with that choice
abbrev pub last_events : Rules → Object → Situation → Pending → List Event
last_events k o t p = option_map_or (λ e. with_next (unwished_next k o t e) e ∷ []) (last_release p) []
