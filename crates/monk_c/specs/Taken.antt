-- What a call that is not refused has done
use Rattle.std.specs.Prelude.{◌≡◌, ◌≢◌, ℕ, ℤ, ◌==◌, Option, Some, None, IfSome, if◌then◌else◌}
use Rattle.monk_kinds.specs.declared.mode.Pick.TheVariants as pick
use Rattle.monk_kinds.specs.declared.mode.{Pick.Pick, Rules.Rules}
use Rattle.monk_history.specs.declared.event.Event.TheVariants as event
use Rattle.monk_history.specs.declared.event.{Event.Event, Next.TheVariants.Stay}
use Rattle.monk_world.specs.declared.home.Home.TheVariants as home
use Rattle.monk_world.specs.Places.{stage, due_stage}
use Rattle.monk_hall.specs.Tokens.{House, Token, Holder}
use Rattle.monk_hall.specs.Calls.{ComesAfter, HasArrived, HasEntered, StillWaits, HasStayed, HasDone, peeks_for}
use Rattle.monk_hall.specs.Granting.{Grant, HasGranted, GrantsOut, GrantsInside}
use Rattle.monk_c.specs.declared.call.Call.TheVariants as call
use Rattle.monk_c.specs.{Answers.refusal_number, Answers.place_number, Refusal.refusal_of, declared.call.Call.Call}
use Rattle.monk_c.specs.Stands.{At, SeatView, At.Outside, At.Waiting, At.Inside}
use Rattle.monk_object.specs.Flags.{SET, flags_meaning}

-- a wish from C's number: 0 for entry, 2 for a signaller, and any other for a waiter
abbrev pub wish_of : ℕ → Pick
wish_of n = if n == 0 then pick.Entry else if n == 2 then pick.Signaller else pick.Waiter

-- the granted word as C gets it: 0 for none, because no grant comes to word 0
abbrev pub told_word : Option Grant → ℕ
told_word None = 0
told_word (Some g) = g.word

-- the seat is outside, with a pass for which f holds
abbrev pub IsOutside : At → (Token → Type 0) → Type 0
IsOutside (Outside p) f = f p
IsOutside (Waiting p) f = ⊥
IsOutside (Inside a) f = ⊥

-- the seat waits, with a pass for which f holds
abbrev pub IsWaiting : At → (Token → Type 0) → Type 0
IsWaiting (Outside p) f = ⊥
IsWaiting (Waiting p) f = f p
IsWaiting (Inside a) f = ⊥

-- the seat is inside, with a token for which f holds
abbrev pub IsInside : At → (Holder → Type 0) → Type 0
IsInside (Outside p) f = ⊥
IsInside (Waiting p) f = ⊥
IsInside (Inside a) f = f a

-- it waits, or has come in
abbrev pub HasPolled : Rules → Token → At → Type 0
HasPolled k p (Outside q) = ⊥
HasPolled k p (Waiting q) = StillWaits k flags_meaning p q × (stage p.me.place ≢ due_stage)
HasPolled k p (Inside a) = HasEntered k flags_meaning p a × ComesAfter 0 p.me a.me

-- by this release it went out, or parked inside, and C got what it granted: the word of the seat
-- that the release chose, or the word of the ticket that enters next. The number of that ticket
-- is the number of enters so far
abbrev pub WentOut : Rules → House → Holder → Event → Pick → Token → ℕ → Type 0
WentOut k h a e wish p told = (g : Option Grant) × (told ≡ told_word g) × GrantsOut k flags_meaning a e wish p h g

-- the seat waits after its call, and that word was granted
abbrev pub Parked : Rules → House → Holder → Event → Pick → Token → ℕ → Type 0
Parked k h a e wish p told = (g : Option Grant) × (told ≡ told_word g) × GrantsInside k flags_meaning a e wish p h g

-- by this release it stayed, or parked inside
abbrev pub StayedOrParked : Rules → House → Holder → Event → Pick → At → ℕ → Type 0
StayedOrParked k h a e wish (Outside p) told = ⊥
StayedOrParked k h a e wish (Waiting p) told =
    (g : Option Grant) × (told ≡ told_word g)
    × HasGranted k flags_meaning a e wish home.Inner (peeks_for k flags_meaning a.floor e wish) p h g
StayedOrParked k h a e wish (Inside b) told =
    (told ≡ 0) × HasStayed k flags_meaning a e wish (peeks_for k flags_meaning a.floor e wish) b

-- the seat has set the flags
abbrev pub HasSet : Rules → Holder → ℕ → Holder → Type 0
HasSet k a bits b =
    (reply : ℕ) × HasDone k flags_meaning a (event.Act a.me.seat (record { code = SET; arg = bits }) reply) b

-- what the call did to a seat of a hall, and which word it gave
abbrev pub IsTaken : Rules → House → Call → Pick → At → At → ℕ → Type 0
IsTaken k h call.Arrive wish s t told =
    (told ≡ 0) × IsOutside s (λ p. IsWaiting t (λ q. HasArrived k flags_meaning p q))
IsTaken k h call.Poll wish s t told = (told ≡ 0) × IsWaiting s (λ p. HasPolled k p t)
IsTaken k h call.Leave wish s t told =
    IsInside s (λ a. IsOutside t (λ p. WentOut k h a (event.Leave a.me.seat Stay) wish p told))
IsTaken k h (call.Wait c) wish s t told =
    IsInside s (λ a. IsWaiting t (λ p. Parked k h a (event.Wait a.me.seat c Stay) wish p told))
IsTaken k h (call.Signal c) wish s t told =
    IsInside s (λ a. StayedOrParked k h a (event.Signal a.me.seat c Stay) wish t told)
IsTaken k h (call.Broadcast c) wish s t told =
    (told ≡ 0) × IsInside s (λ a. IsInside t (λ b. HasDone k flags_meaning a (event.SignalAll a.me.seat c) b))
IsTaken k h (call.SignalLeave c) wish s t told =
    IsInside s (λ a. IsOutside t (λ p. WentOut k h a (event.SignalLeave a.me.seat c Stay) wish p told))
IsTaken k h (call.SignalWait c d) wish s t told =
    IsInside s (λ a. IsWaiting t (λ p. Parked k h a (event.SignalWait a.me.seat c d Stay) wish p told))
IsTaken k h (call.SetFlags bits) wish s t told = (told ≡ 0) × IsInside s (λ a. IsInside t (λ b. HasSet k a bits b))
IsTaken k h (call.WaitUntil p) wish s t told =
    IsInside s (λ a. StayedOrParked k h a (event.Until a.me.seat p Stay) wish t told)

-- the same seat, after a call that was taken
abbrev pub Answers : Rules → Call → Pick → SeatView → ℤ → ℕ → SeatView → Type 0
Answers k call wish a code told b =
    (b.room ≡ a.room) × (code ≡ place_number b.at) × IsTaken k a.room.house call wish a.at b.at told

-- a call that isn't refused is carried out
abbrev pub IfTaken : Rules → Call → Pick → SeatView → ℤ → ℕ → SeatView → Type 0
IfTaken k call wish a code told b = refusal_of k.mode a call ≡ None → Answers k call wish a code told b

-- a call that is refused changes nothing, and is answered by its refusal
abbrev pub IfRefused : Rules → Call → SeatView → ℤ → SeatView → Type 0
IfRefused k call a code b = IfSome (refusal_of k.mode a call) (λ f. (b ≡ a) × (code ≡ refusal_number f))

-- a call that is refused gives no grant
abbrev pub IfUntold : Rules → Call → SeatView → ℕ → Type 0
IfUntold k call a told = IfSome (refusal_of k.mode a call) (λ f. told ≡ 0)
