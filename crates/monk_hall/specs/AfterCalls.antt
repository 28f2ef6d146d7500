-- A token that is active or parked
use Rattle.monk_kinds.specs.declared.mode.{Pick.Pick, Rules.Rules}
use Rattle.monk_object.specs.Object.{Object}
use Rattle.monk_history.specs.declared.event.Event.{Event}
use Rattle.monk_world.specs.declared.home.Home.TheVariants as home
use Rattle.monk_hall.specs.{Calls.HasReleased, Calls.HasStayed, Calls.peeks_for, Tokens.Token, Tokens.Holder}
use Rattle.monk_hall.specs.declared.after.After.{After, TheVariants.Active, TheVariants.Parked}

-- the first fact if the token is active, and the second if it is parked
abbrev pub MatchAfter : {K T : Type 0} → After K T → (Holder → Type 0) → (Token → Type 0) → Type 0
MatchAfter (Active a) f g = f a
MatchAfter (Parked p) f g = g p

-- a release after which a seat may stay active. It stays if the wish rules chose so, and else is parked inside. It
-- looks at the ticket word if its wish is for entry and there is something to choose
abbrev pub StaysOrParks : {K T : Type 0} → Rules → Object → Holder → Event → Pick → After K T → Type 0
StaysOrParks k o a call wish to =
    MatchAfter to (λ b. HasStayed k o a call wish (peeks_for k o a.floor call wish) b)
    (λ p. HasReleased k o a call wish home.Inner (peeks_for k o a.floor call wish) p)
