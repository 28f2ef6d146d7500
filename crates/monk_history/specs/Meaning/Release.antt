-- What a call asks for, before the choice and the reply are known
use Rattle.std.specs.Prelude.{Bool, IsTrue, if◌then◌else◌}
use Rattle.std.specs.Prelude.{List}
use Rattle.monk_kinds.specs.declared.mode.{Rules.Rules, Pick.Pick}
use Rattle.monk_object.specs.Object.{Object}
use Rattle.monk_history.specs.Meaning.{Events.seat_of, Monitor.Monitor, Situation.Situation, Situation.situation}
use Rattle.monk_history.specs.Meaning.{Choice.queues_at, Choice.must_stay, Wish.choice_by}
use Rattle.monk_history.specs.Meaning.Reasons.{is_in_range, is_offered, is_in_turn, is_in_place}
use Rattle.monk_history.specs.declared.event.Next.{Next, TheVariants.Stay}
use Rattle.monk_history.specs.declared.event.Event.{Event}
use Rattle.monk_history.specs.declared.event.Event.TheVariants.{Enter, Act, Leave, Wait, Signal, SignalLeave, Until}
use Rattle.monk_history.specs.declared.event.Event.TheVariants.{Resume, SignalAll, SignalWait}

-- whether an event is allowed, apart from its choice and its reply. It is written with `stay`
pub record MayCallIn (m : Monitor) (t : Situation) (e : Event) : Type 0 where
  pub in_range : IsTrue (is_in_range m.seats m.conds m.object.codes m.object.predicates e)
  pub offered : IsTrue (is_offered m.kind e)
  pub in_turn : IsTrue (is_in_turn t e)
  pub in_place : IsTrue (is_in_place m.object t e)

-- whether the call may be made after that history, whatever it then chooses
abbrev pub MayCall : Monitor → List Event → Event → Type 0
MayCall m h e = MayCallIn m (situation m h) e

-- the event as a caller knows it: written with `stay` and reply 0
abbrev pub as_called : Event → Event
as_called (Enter s via) = Enter s via
as_called (Act s op r) = Act s op 0
as_called (Leave s x) = Leave s Stay
as_called (Wait s c x) = Wait s c Stay
as_called (Signal s c x) = Signal s c Stay
as_called (SignalLeave s c x) = SignalLeave s c Stay
as_called (Until s p x) = Until s p Stay
as_called (Resume s q) = Resume s q
as_called (SignalAll s c) = SignalAll s c
as_called (SignalWait s c d x) = SignalWait s c d Stay

-- the event with this choice, if it is a release
abbrev pub with_next : Next → Event → Event
with_next x (Enter s via) = Enter s via
with_next x (Act s op r) = Act s op r
with_next x (Leave s y) = Leave s x
with_next x (Wait s c y) = Wait s c x
with_next x (Signal s c y) = Signal s c x
with_next x (SignalLeave s c y) = SignalLeave s c x
with_next x (Until s p y) = Until s p x
with_next x (Resume s q) = Resume s q
with_next x (SignalAll s c) = SignalAll s c
with_next x (SignalWait s c d y) = SignalWait s c d x

-- what a release chooses: to stay if it must, else by the wish rules over the queues after its own moves
abbrev pub choice_of : Rules → Object → Situation → Event → Bool → Pick → Next
choice_of k o t e known pick = if must_stay o t e then Stay else choice_by k (queues_at o t e) (seat_of e) known pick
