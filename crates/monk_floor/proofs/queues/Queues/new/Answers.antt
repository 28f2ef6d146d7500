use Rattle.monk_floor.proofs.ShownLaws.{none_shown}
use Rattle.monk_floor.proofs.queues.Queues.new.Goals as goal

pub returns-clause-conditions : goal.returns-clause-conditions
returns-clause-conditions c = none_shown c.new.result c.new.ensures
