use Rattle.std.proofs.Common.{◌≡◌, take}
use Rattle.monk_history.specs.Meaning.Untils.{ready_of}
use Rattle.monk_tell.proofs.lines.ready_seats.Given as goal

-- the ready seats among the waits so far
abbrev pub invariant-loop-wait : goal.invariant-loop-wait
invariant-loop-wait g l =
    l.ready.items ≡ ready_of g.T.Guarded.meaning (g.T.Guarded.state l.object) (take l.wait-index l.untils)
