use Rattle.monk_judge.proofs.Sleeper.{told_asleep, told_missed}
use Rattle.monk_judge.proofs.laws.sleeper_is_told.Goals as goal

pub returns : goal.returns
returns c = record { asleep = told_asleep; missed = told_missed }
