use Rattle.std.proofs.{Common.arith, lemmas.Grind.common_steps}
use Rattle.monk_samples.proofs.shop.have_cut.Goals as goal
use Rattle.monk_samples.proofs.VisitLaws.{visited_twice}

pub returns-in-Done : goal.returns-in-Done
returns-in-Done g c = grind (arith, common_steps, visited_twice)

pub returns-in_default : goal.returns-in_default
returns-in_default g c = grind (arith, common_steps)

pub act_and_finish-pass-requires-clause-pred : goal.act_and_finish-pass-requires-clause-pred
act_and_finish-pass-requires-clause-pred g c κs within = grind (arith, common_steps)

pub act_and_finish-pass-requires-clause-code : goal.act_and_finish-pass-requires-clause-code
act_and_finish-pass-requires-clause-code g c κs within = grind (arith, common_steps)

pub act_and_finish-pass-requires-clause-promise : goal.act_and_finish-pass-requires-clause-promise
act_and_finish-pass-requires-clause-promise g c κs within = grind (arith, common_steps)

pub act_and_finish-requires-clause-pred : goal.act_and_finish-requires-clause-pred
act_and_finish-requires-clause-pred g c κs within = grind (arith, common_steps)

pub act_and_finish-requires-clause-code : goal.act_and_finish-requires-clause-code
act_and_finish-requires-clause-code g c κs within = grind (arith, common_steps)

pub act_and_finish-requires-clause-promise : goal.act_and_finish-requires-clause-promise
act_and_finish-requires-clause-promise g c κs within = grind (arith, common_steps)
