use Rattle.std.proofs.{Common.arith, lemmas.Grind.common_steps}
use Rattle.monk_samples.proofs.shop.finish_cut.Goals as goal
use Rattle.monk_samples.{proofs.VisitLaws.tired, proofs.VisitLaws.visited, specs.Members.finishes}

pub returns-in-Ok : goal.returns-in-Ok
returns-in-Ok g c = grind (arith, common_steps, visited)

pub returns-in-Err : goal.returns-in-Err
returns-in-Err g c = tired g.K.Kind.rules g.T.Guarded.meaning c.args.pass finishes c.in-Err.pass c.in-Err.ensures

pub act_now-requires-clause-code : goal.act_now-requires-clause-code
act_now-requires-clause-code g c κs within = grind (arith, common_steps)
