use Rattle.monk_history.proofs.MeaningLaws.EntryLaws.{inside_by_own}
use Rattle.monk_history.proofs.laws.inside_by_own_events.Goals as goal

pub returns : goal.returns
returns c = inside_by_own
