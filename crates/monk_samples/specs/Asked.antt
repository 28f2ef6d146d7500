-- Which call a seat makes, and by which wish a release chooses
use Rattle.std.specs.Prelude.{◌≡◌, Bool, List, [], ◌∷◌, Some}
use Rattle.monk_kinds.specs.declared.mode.{Pick.Pick, Rules.Rules}
use Rattle.monk_object.specs.Object.{Object}
use Rattle.monk_history.specs.Meaning.{Events.next_of, Release.with_next, Release.choice_of}
use Rattle.monk_history.specs.declared.event.{Event.Event, Next.Next, Next.TheVariants.Stay}
use Rattle.monk_floor.specs.View.{stands_of}
use Rattle.monk_hall.specs.{Calls.is_entry_known, Layout.floor_of, declared.setting.Setting.Setting}
use Rattle.monk_samples.specs.Trails.{Addition}

-- the call of an event: a release is written with `stay`, whatever it chose
abbrev pub asked_call : Addition → Event
asked_call d = with_next Stay d.event

-- a release chose by this wish. `known` is what the seat knew of the entry, which only a wish for entry asks. If such
-- a wish found nobody there, it chooses as a wish for a waiter, so what a look found is not kept
abbrev pub WishesFor : Rules → Object → Pick → Setting → Addition → Type 0
WishesFor k o wish c d = (x : Next) → next_of d.event ≡ Some x
    → (known : Bool)
    × (x ≡ choice_of k o (stands_of k o (floor_of c d.before)) (asked_call d) (is_entry_known wish known) wish)

-- it makes this call, with that wish
pub record IsCall (k : Rules) (o : Object) (wish : Pick) (c : Setting) (call : Event) (d : Addition) : Type 0 where
  pub asks : asked_call d ≡ call
  pub wishes : WishesFor k o wish c d

-- these calls and no others, in order
abbrev pub AreCalls : Rules → Object → Pick → Setting → List Event → List Addition → Type 0
AreCalls k o wish c [] [] = Unit {0}
AreCalls k o wish c [] (d ∷ ds) = ⊥
AreCalls k o wish c (e ∷ es) [] = ⊥
AreCalls k o wish c (e ∷ es) (d ∷ ds) = IsCall k o wish c e d × AreCalls k o wish c es ds
