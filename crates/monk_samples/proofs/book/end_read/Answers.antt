use Rattle.std.proofs.Common.{◌≡◌, true, false, ◌&&◌, arith}
use Rattle.monk_object.specs.Book as book
use Rattle.monk_object.specs.{Book.book_meaning}
use Rattle.monk_samples.proofs.book.end_read.Goals as goal
use Rattle.monk_samples.proofs.book.end_read.Goals.{then-holds, else-holds, then-writes, else-writes}
use Rattle.monk_samples.proofs.VisitLaws.{finished_by, visited}
use Rattle.monk_samples.specs.{Styles.has_waiting, Visits.data_after}
use Rattle.monk_samples.specs.Members.{ends_to_read, CAN_READ, CAN_WRITE}
use Rattle.std.proofs.lemmas.Grind.{common_steps}

pub returns-after-writes : goal.returns-after-writes
returns-after-writes g c =
    let k = g.K.Kind.rules in let o = g.T.Guarded.meaning in let a = c.in-Ok.active in let h = a.floor.history in
    let last = book_meaning.holds (data_after k book_meaning c.args.pass.me.setting h) book.CAN_WRITE in
    let waits = has_waiting k CAN_WRITE h in let next = c.if-writes.next in
    let holds : c.holds.result ≡ last = grind (arith, common_steps) in
    let is : c.if-holds.writes ≡ (last && waits) = grind (arith, common_steps, then-holds, else-holds) in
    let writes : (last && waits) ≡ true → next ≡ CAN_WRITE = grind (arith, common_steps, then-writes, else-writes) in
    let reads : (last && waits) ≡ false → next ≡ CAN_READ = grind (arith, common_steps, then-writes, else-writes) in
    visited k o c.args.pass (ends_to_read k c.args.pass.me.setting) _ a c.finish.result.0 c.finish.result.1
    c.in-Ok.ensures tt
    (finished_by k o (last && waits) CAN_WRITE CAN_READ next a c.finish.result.0 c.finish.result.1
    writes reads c.finish.ensures)

pub returns-in-Err : goal.returns-in-Err
returns-in-Err g c = grind (arith, common_steps)

pub act_now-requires-clause-code : goal.act_now-requires-clause-code
act_now-requires-clause-code g c κs within = grind (arith, common_steps)

pub holds-requires-after_bounds : goal.holds-requires-after_bounds
holds-requires-after_bounds g c κs within = grind (arith, common_steps)
