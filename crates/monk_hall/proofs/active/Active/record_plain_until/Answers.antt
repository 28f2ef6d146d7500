use Rattle.std.proofs.{Common.arith, lemmas.Grind.common_steps}
use Rattle.monk_hall.proofs.active.Active.record_plain_until.Goals as goal

pub plain_until-release-requires-clause-call : goal.plain_until-release-requires-clause-call
plain_until-release-requires-clause-call g c κs within = grind (arith, common_steps)

pub returns-clause-recorded : goal.returns-clause-recorded
returns-clause-recorded g c = grind (arith, common_steps)
