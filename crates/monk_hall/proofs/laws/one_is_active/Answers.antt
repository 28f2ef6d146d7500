use Rattle.monk_hall.proofs.RuleLaws.{one_is_active as active, one_has_the_right as right}
use Rattle.monk_hall.proofs.laws.one_is_active.Goals as goal

pub returns : goal.returns
returns c = record { active = active; right = right }
