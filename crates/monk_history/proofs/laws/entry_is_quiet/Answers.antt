use Rattle.monk_history.proofs.MeaningLaws.QuietLaws.{quiet_after}
use Rattle.monk_history.proofs.laws.entry_is_quiet.Goals as goal

pub returns : goal.returns
returns c = quiet_after
