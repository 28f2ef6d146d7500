use Rattle.monk_hall.proofs.HomeLaws.{has_home_history}
use Rattle.monk_hall.proofs.laws.home_history_is_shared.Goals as goal

pub returns : goal.returns
returns c = has_home_history
