use Rattle.monk_history.proofs.laws.seats_stand_once.Goals as goal
use Rattle.monk_history.proofs.MeaningLaws.{MoveLaws.queued_once, StandingLaws.legal_placed}

pub returns-clause-placed : goal.returns-clause-placed
returns-clause-placed c = legal_placed

pub returns-clause-queued_once : goal.returns-clause-queued_once
returns-clause-queued_once c = queued_once
