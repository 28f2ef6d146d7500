use Rattle.monk_hall.proofs.NoWakeMissed.{no_wake_is_missed as law}
use Rattle.monk_hall.proofs.laws.no_wake_is_missed.Goals as goal

pub returns : goal.returns
returns c = law
