use Rattle.std.proofs.Common.{◌≡◌, [], map}
use Rattle.monk_audit.specs.Replay.{replay_situation}
use Rattle.monk_tell.specs.Cause.{conditions_below}
use Rattle.monk_tell.proofs.queues.Conditions.of.Given as goal

-- the queues of the conditions so far
abbrev pub invariant-loop-cond : goal.invariant-loop-cond
invariant-loop-cond l =
    map (λ s. s.0.items) l.queues.items ≡ conditions_below (replay_situation l.replay []).condition l.cond
