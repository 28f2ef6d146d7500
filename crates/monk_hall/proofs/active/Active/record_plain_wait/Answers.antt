use Rattle.monk_hall.proofs.active.Active.record_plain_wait.Goals as goal
use Rattle.std.proofs.{lemmas.Grind.common_steps, Common.arith}

pub plain_wait-release-requires-clause-call : goal.plain_wait-release-requires-clause-call
plain_wait-release-requires-clause-call g c κs within = grind (arith, common_steps)

pub returns-clause-recorded : goal.returns-clause-recorded
returns-clause-recorded g c = grind (arith, common_steps)

pub returns-clause-away : goal.returns-clause-away
returns-clause-away g c = grind (arith, common_steps)
