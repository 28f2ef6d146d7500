use Rattle.std.proofs.{Common.arith, lemmas.List.append-nil, lemmas.Grind.common_steps}
use Rattle.monk_tell.proofs.lines.ready_seats.Goals as goal
use Rattle.monk_tell.proofs.lines.ready_seats.Goals.{then-holds+in_ok-push, else-holds}
use Rattle.monk_tell.proofs.LineLaws.{ready_more}

pub loop-wait-preserved : goal.loop-wait-preserved
loop-wait-preserved g c =
    let o = g.T.Guarded.meaning in
    let d = g.T.Guarded.state c.args.object.now in
    let ws = c.args.untils.now in
    let i = c.loop-wait.wait-index in
    elim c.if-holds.branch [
      | then-holds+in_ok-push w ↦ grind (arith, common_steps, ready_more)
      | else-holds w ↦ grind (arith, common_steps, ready_more, append-nil)
    ]
