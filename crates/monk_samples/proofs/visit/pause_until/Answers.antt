use Rattle.std.proofs.Common.{◌≡◌, false, Some, arith}
use Rattle.monk_history.specs.Meaning.Monitor.{data_of}
use Rattle.monk_floor.specs.View.{monitor_of}
use Rattle.monk_samples.proofs.visit.pause_until.Goals as goal
use Rattle.monk_samples.proofs.{ShortLaws.still_pauses, TrailLaws.called_none}
use Rattle.monk_samples.proofs.PauseLaws.{left_after, paused_none, paused_once}
use Rattle.monk_samples.specs.{Trails.inside, Visits.guard}
use Rattle.std.proofs.lemmas.Grind.{common_steps}

pub loop-active-init : goal.loop-active-init
loop-active-init g c = grind (arith, common_steps, paused_none, called_none)

pub loop-active-preserved : goal.loop-active-preserved
loop-active-preserved g c = grind (arith, common_steps, paused_once)

pub returns-in-Err : goal.returns-in-Err
returns-in-Err g c =
    let k = g.K.Kind.rules in let o = g.T.Guarded.meaning in let a = c.loop-active.active in
    let not_yet : o.holds (data_of (monitor_of k o a.floor) a.floor.history) c.args.pred ≡ false = cc in
    left_after k o (inside c.args.active)
    (Some (guard c.args.cond c.args.pred)) a c.in-Err.pass c.loop-active.invariant 3 c.in-Err.ensures
    (still_pauses k o a (guard c.args.cond c.args.pred) c.in-Err.ensures.floor not_yet)
