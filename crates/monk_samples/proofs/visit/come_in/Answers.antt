use Rattle.monk_samples.proofs.TrailLaws.{arrived}
use Rattle.monk_samples.proofs.visit.come_in.Goals as goal
use Rattle.std.proofs.Common.{rules}

pub returns-clause-came : goal.returns-clause-came
returns-clause-came g c = search (rules, arrived)
