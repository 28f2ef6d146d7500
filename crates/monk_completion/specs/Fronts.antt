-- The fronts of the queues from which a release chooses: all that a choice in order of arrival depends on
use Rattle.std.specs.Prelude.{take}
use Rattle.monk_history.specs.{Just.just, Meaning.Choice.Queues}
use Rattle.monk_completion.specs.declared.fronts.Fronts.{Fronts}

-- the queues cut after their fronts
abbrev pub fronts_of : Queues → Queues
fronts_of q = record { waiters = take 1 q.waiters; signallers = take 1 q.signallers; ready = take 1 q.ready }

-- the queues that have just these fronts
abbrev pub shown : Fronts → Queues
shown f = record { waiters = just f.waiter; signallers = just f.signaller; ready = just f.ready }
