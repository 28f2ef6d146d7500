use Rattle.monk_tell.specs.Steps.{IsAfter}
use Rattle.monk_tell.proofs.steps.follow.Given as goal

abbrev pub invariant-loop-before : goal.invariant-loop-before
invariant-loop-before g l =
    IsAfter l.history.header.now l.history.events.now l.before g.T.Guarded.PREDICATES l.replay
    (g.T.Guarded.state l.object)
