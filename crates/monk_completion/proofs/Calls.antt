-- From which queue a turn is due, and what may be called if an event may
use Rattle.std.proofs.Common.{arith, ◌≡◌, ℕ, Some}
use Rattle.monk_history.specs.declared.event.Event.TheVariants as event
use Rattle.monk_history.specs.Meaning.{Choice.queues_at, Events.next_of, Monitor.Monitor, Situation.Situation}
use Rattle.monk_history.specs.Meaning.Release.{MayCallIn, as_called, with_next}
use Rattle.monk_history.specs.declared.event.{Event.Event, Next.Next, Next.TheVariants.Stay}
use Rattle.monk_object.specs.Object.{Object}

pub half_called : (m : Monitor) (t : Situation) (s c d : ℕ) → MayCallIn m t (event.SignalWait s c d Stay)
    → MayCallIn m t (event.SignalLeave s c Stay)
half_called m t s c d h = grind arith

pub named_again : (e : Event) (x : Next) → next_of e ≡ Some x → with_next x (as_called e) ≡ e
named_again e x h = grind arith

pub called_queues : (o : Object) (t : Situation) (e : Event) → queues_at o t (as_called e) ≡ queues_at o t e
called_queues o t e = grind arith
