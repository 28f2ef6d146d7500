use Rattle.std.proofs.Common.{refl}
use Rattle.monk_hall.proofs.watching.Watched.poll.Goals as goal

pub returns-in-Err-clause-same : goal.returns-in-Err-clause-same
returns-in-Err-clause-same g c = (refl, refl)
