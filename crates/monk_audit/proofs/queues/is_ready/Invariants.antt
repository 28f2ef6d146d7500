use Rattle.std.proofs.Common.{◌≡◌, drop}
use Rattle.monk_history.specs.Meaning.Untils.{ready_of}
use Rattle.monk_audit.specs.Replay.{has}
use Rattle.monk_audit.proofs.queues.is_ready.Given as goal

abbrev pub invariant-loop-wait : goal.invariant-loop-wait
invariant-loop-wait g l =
    has l.seat (ready_of g.T.Guarded.meaning (g.T.Guarded.state l.object) (drop l.wait-index l.untils))
    ≡ has l.seat (ready_of g.T.Guarded.meaning (g.T.Guarded.state l.object) l.untils)
