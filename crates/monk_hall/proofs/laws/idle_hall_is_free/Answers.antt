use Rattle.monk_hall.proofs.RuleLaws.{idle_is_free}
use Rattle.monk_hall.proofs.laws.idle_hall_is_free.Goals as goal

pub returns : goal.returns
returns c = idle_is_free
