-- What an audit says about one more event.
use Rattle.std.proofs.Common.{◌≡◌, ℕ, Bool, true, false, cond, [], ◌∷◌, ◌++◌, List, Some, None, refl, subst}
use Rattle.monk_kinds.specs.Names.{rules_named}
use Rattle.monk_kinds.specs.declared.mode.Rules.{Rules}
use Rattle.monk_kinds.specs.declared.name.KindName.{KindName}
use Rattle.monk_object.specs.Names.{meaning_named}
use Rattle.monk_object.specs.declared.name.ObjectName.TheVariants.{Buffer}
use Rattle.monk_history.specs.Text.{Heading, heading}
use Rattle.monk_history.specs.Text.Reading.{first_heading_of}
use Rattle.monk_history.specs.Meaning.Legal.{IsLegal}
use Rattle.monk_history.specs.Meaning.Named.{named_monitor}
use Rattle.monk_history.specs.Meaning.Reasons.{IsAllowed}
use Rattle.monk_history.specs.declared.event.Event.{Event}
use Rattle.monk_history.proofs.PublicLaws.Meaning.{legal_last}
use Rattle.monk_floor.specs.View.{FloorView, monitor_of}
use Rattle.monk_tests.specs.FloorCalls.{IsRoom, IsAllowedOn}

-- the last event of a legal history is allowed after a floor's history, if the header names the floor's monitor
pub allowed_on : (k : Rules) (n : KindName) (seats conds size : ℕ) (h : Heading) (f : FloorView) (e : Event)
    (events : List Event)
    → h ≡ heading 1 n seats conds Buffer size → k ≡ rules_named n → IsRoom seats conds size f
    → events ≡ f.history ++ e ∷ []
    → IsLegal (named_monitor h) events → IsAllowedOn k f e
allowed_on k n seats conds size h f e events is named room grown l =
    let same : named_monitor h ≡ monitor_of k (meaning_named Buffer) f =
    rw (is, named, room.seats_are, room.conds_are, room.opens) refl in
    subst (λ m. IsAllowed m f.history e) same
    (legal_last (named_monitor h) f.history e (subst (IsLegal (named_monitor h)) grown l))

-- if a choice gives a heading, it is the one that was offered
made_is : (b : Bool) (x y : Heading) → cond b (Some x) None ≡ Some y → y ≡ x
made_is true x y made = cc
made_is false x y made = absurd cc

-- a header that was made has the numbers that were given
pub header_made : (n : KindName) (seats conds size : ℕ) (h : Heading)
    → first_heading_of n seats conds Buffer size ≡ Some h
    → h ≡ heading 1 n seats conds Buffer size
header_made n seats conds size h made = made_is _ (heading 1 n seats conds Buffer size) h made
