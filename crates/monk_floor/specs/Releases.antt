-- Releases by what they do to the queues before they choose
use Rattle.std.specs.Prelude.{◌≡◌, ℕ, List, [], true, false}
use Rattle.monk_kinds.specs.declared.mode.Rules.{Rules}
use Rattle.monk_object.specs.Object.{Object}
use Rattle.monk_history.specs.Meaning.{Situation.Situation, Waiters.serves, Signallers.signals, Choice.must_stay}
use Rattle.monk_history.specs.Meaning.{Reasons.is_right_reply, Release.MayCall}
use Rattle.monk_history.specs.declared.event.Event.{Event}
use Rattle.monk_floor.specs.View.{FloorView, monitor_of}

-- this call may be made on a floor: the event is allowed apart from its choice and its reply
abbrev pub MayCallOn : Rules → Object → FloorView → Event → Type 0
MayCallOn k o f e = MayCall (monitor_of k o f) f.history e

-- the event has no reply
abbrev pub IsReplyless : Object → Event → Type 0
IsReplyless o e = (d : List ℕ) → is_right_reply o d e ≡ true

-- the event must give the monitor up, and makes nobody a signaller: a leave, a wait, a signal and leave
pub record MakesNoSignaller (o : Object) (e : Event) : Type 0 where
  pub replyless : IsReplyless o e
  pub chooses : (t : Situation) → must_stay o t e ≡ false
  pub signals : (queue : ℕ → List ℕ) → signals queue e ≡ []

-- it also serves nobody: a leave, a wait
pub record ServesNobody (o : Object) (e : Event) : Type 0 where
  pub replyless : IsReplyless o e
  pub chooses : (t : Situation) → must_stay o t e ≡ false
  pub signals : (queue : ℕ → List ℕ) → signals queue e ≡ []
  pub serves : (queue : ℕ → List ℕ) → serves queue e ≡ []
