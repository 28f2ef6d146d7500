-- Queues of which only the fronts are known
use Rattle.monk_history.specs.{Meaning.Choice.Queues, Just.just}
use Rattle.monk_floor.specs.declared.fronts.Fronts.{Fronts}

-- queues with these fronts and nobody after them
abbrev pub queues : Fronts → Queues
queues f = record { waiters = just f.waiter; signallers = just f.signaller; ready = just f.ready }
