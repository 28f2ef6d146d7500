use Rattle.std.proofs.Common.{◌-◌, Some, length}
use Rattle.monk_samples.proofs.visit.pause_until.Given as goal
use Rattle.monk_samples.specs.{Trails.inside, Visits.HasPausedUntil, Visits.guard}

abbrev pub invariant-loop-active : goal.invariant-loop-active
invariant-loop-active g l =
    HasPausedUntil g.K.Kind.rules g.T.Guarded.meaning (inside l.initial.active)
    (Some (guard l.initial.cond l.initial.pred)) l.active

abbrev pub decreases-loop-active : goal.decreases-loop-active
decreases-loop-active g l = l.active.me.setting.budget - length l.active.me.mine
