use Rattle.std.proofs.Common.{◌≡◌, true, false, arith}
use Rattle.monk_samples.proofs.book.end_write.Goals as goal
use Rattle.monk_samples.proofs.{book.end_write.Goals.then-waits, book.end_write.Goals.else-waits}
use Rattle.monk_samples.proofs.VisitLaws.{finished_by, visited}
use Rattle.monk_samples.specs.{Members.ends_to_write, Members.CAN_READ, Members.CAN_WRITE, Styles.has_waiting}
use Rattle.std.proofs.lemmas.Grind.{common_steps}

pub returns-after-waits : goal.returns-after-waits
returns-after-waits g c =
    let k = g.K.Kind.rules in let a = c.in-Ok.active in let b = has_waiting k CAN_READ a.floor.history in
    let next = c.if-waits.next in
    let reads : b ≡ true → next ≡ CAN_READ = λ e. elim c.if-waits.branch [ then-waits w ↦ cc | else-waits w ↦ cc ] in
    let writes : b ≡ false → next ≡ CAN_WRITE = λ e. elim c.if-waits.branch [ then-waits w ↦ cc | else-waits w ↦ cc ] in
    visited k g.T.Guarded.meaning c.args.pass (ends_to_write k) _ a c.finish.result.0 c.finish.result.1
    c.in-Ok.ensures tt
    (finished_by k g.T.Guarded.meaning b CAN_READ CAN_WRITE next a c.finish.result.0 c.finish.result.1 reads writes
    c.finish.ensures)

pub returns-in-Err : goal.returns-in-Err
returns-in-Err g c = grind (arith, common_steps)

pub act_now-requires-clause-code : goal.act_now-requires-clause-code
act_now-requires-clause-code g c κs within = grind (arith, common_steps)
