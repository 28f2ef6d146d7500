use Rattle.std.proofs.Common.{ℕ, ◌-◌, length}
use Rattle.monk_samples.specs.Visits.{HasMissed, always, hastily}
use Rattle.monk_samples.proofs.haste.act_and_finish_in_haste.Given as goal

abbrev pub invariant-loop-done : goal.invariant-loop-done
invariant-loop-done g l = (misses : ℕ)
    × HasMissed g.K.Kind.rules g.T.Guarded.meaning l.initial.pass
    (hastily l.initial.visit.cond l.initial.visit.pred l.initial.visit.op (always l.initial.visit.next)) misses l.pass

abbrev pub decreases-loop-done : goal.decreases-loop-done
decreases-loop-done g l = l.pass.me.setting.budget - length l.pass.me.mine
