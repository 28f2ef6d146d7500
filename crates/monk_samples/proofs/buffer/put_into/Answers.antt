use Rattle.std.proofs.{Common.arith, lemmas.Grind.common_steps}
use Rattle.monk_samples.proofs.buffer.put_into.Goals as goal

pub returns : goal.returns
returns g c = c.act_and_finish.ensures

pub act_and_finish-requires-clause-pred : goal.act_and_finish-requires-clause-pred
act_and_finish-requires-clause-pred g c κs within = grind (arith, common_steps)

pub act_and_finish-requires-clause-code : goal.act_and_finish-requires-clause-code
act_and_finish-requires-clause-code g c κs within = grind (arith, common_steps)

pub act_and_finish-requires-clause-promise : goal.act_and_finish-requires-clause-promise
act_and_finish-requires-clause-promise g c κs within = grind (arith, common_steps)
