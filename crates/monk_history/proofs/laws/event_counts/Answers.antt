use Rattle.monk_history.proofs.MeaningLaws.MoveLaws.{counts_after}
use Rattle.monk_history.proofs.laws.event_counts.Goals as goal

pub returns : goal.returns
returns c = counts_after
