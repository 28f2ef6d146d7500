use Rattle.std.proofs.Common.{suc}
use Rattle.monk_samples.proofs.haste.act_and_finish_in_haste.Goals as goal
use Rattle.monk_samples.proofs.{HasteLaws.missed_then, VisitLaws.none_missed, VisitLaws.visited_by}
use Rattle.monk_samples.specs.Visits.{always, hastily}

pub loop-done-init : goal.loop-done-init
loop-done-init g c = (
  0,
  none_missed g.K.Kind.rules g.T.Guarded.meaning c.args.pass
      (hastily c.args.visit.cond c.args.visit.pred c.args.visit.op (always c.args.visit.next)),
)

pub returns-in-Ok : goal.returns-in-Ok
returns-in-Ok g c = let v = hastily c.args.visit.cond c.args.visit.pred c.args.visit.op (always c.args.visit.next) in
    visited_by g.K.Kind.rules g.T.Guarded.meaning c.args.pass c.loop-done.pass c.in-Ok.done.0 v c.in-Ok.done.1
    c.loop-done.invariant.0 tt c.loop-done.invariant.1 c.in-Ok.ensures.tried

pub loop-done-preserved : goal.loop-done-preserved
loop-done-preserved g c =
    let v = hastily c.args.visit.cond c.args.visit.pred c.args.visit.op (always c.args.visit.next) in (
      suc c.loop-done.invariant.0,
      missed_then g.K.Kind.rules g.T.Guarded.meaning c.args.pass c.loop-done.pass c.in-Err.back v
          c.loop-done.invariant.0 c.loop-done.invariant.1 c.in-Err.ensures.tried,
    )
