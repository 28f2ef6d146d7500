use Rattle.monk_hall.proofs.ScheduleMoves.{every_schedule as law}
use Rattle.monk_hall.proofs.laws.every_schedule_is_one_history.Goals as goal

pub returns : goal.returns
returns c = law
