use Rattle.monk_history.proofs.MeaningLaws.MoveLaws.{stands_after}
use Rattle.monk_history.proofs.laws.event_moves_seats.Goals as goal

pub returns : goal.returns
returns c = stands_after
