use Rattle.std.proofs.{Common.arith, lemmas.Grind.common_steps}
use Rattle.monk_samples.proofs.buffer.take_hastily.Goals as goal

pub returns : goal.returns
returns g c = c.act_and_finish_in_haste.ensures

pub act_and_finish_in_haste-requires-clause-pred : goal.act_and_finish_in_haste-requires-clause-pred
act_and_finish_in_haste-requires-clause-pred g c κs within = grind (arith, common_steps)

pub act_and_finish_in_haste-requires-clause-code : goal.act_and_finish_in_haste-requires-clause-code
act_and_finish_in_haste-requires-clause-code g c κs within = grind (arith, common_steps)

pub act_and_finish_in_haste-requires-clause-promise : goal.act_and_finish_in_haste-requires-clause-promise
act_and_finish_in_haste-requires-clause-promise g c κs within = grind (arith, common_steps)
