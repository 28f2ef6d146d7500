use Rattle.std.proofs.{Common.arith, lemmas.Grind.common_steps}
use Rattle.monk_kinds.specs.declared.mode.Pick.TheVariants.{Waiter}
use Rattle.monk_samples.proofs.book.begin_write.Goals as goal
use Rattle.monk_samples.proofs.{StyleLaws.left, VisitLaws.visited}
use Rattle.monk_samples.specs.{Members.begins_to_write, declared.end.End.TheVariants.Done}

pub returns-in-Ok : goal.returns-in-Ok
returns-in-Ok g c =
    let k = g.K.Kind.rules in let a = c.in-Ok.active in
    visited k g.T.Guarded.meaning c.args.pass begins_to_write _ a c.leave.result Done c.in-Ok.ensures.acted.0
    c.in-Ok.ensures.acted.1
    (left k g.T.Guarded.meaning Waiter a _ _ c.leave.result c.leave.ensures)

pub returns-in-Err : goal.returns-in-Err
returns-in-Err g c = grind (arith, common_steps)

pub act_when-requires-clause-pred : goal.act_when-requires-clause-pred
act_when-requires-clause-pred g c κs within = grind (arith, common_steps)

pub act_when-requires-clause-code : goal.act_when-requires-clause-code
act_when-requires-clause-code g c κs within = grind (arith, common_steps)

pub act_when-requires-clause-promise : goal.act_when-requires-clause-promise
act_when-requires-clause-promise g c κs within = grind (arith, common_steps)
