use Rattle.monk_hall.proofs.active.Active.record_plain_signal.Goals as goal
use Rattle.std.proofs.{lemmas.Grind.common_steps, Common.arith}

pub plain_signal-release-requires-clause-call : goal.plain_signal-release-requires-clause-call
plain_signal-release-requires-clause-call g c κs within = grind (arith, common_steps)

pub returns-clause-recorded : goal.returns-clause-recorded
returns-clause-recorded g c = grind (arith, common_steps)
