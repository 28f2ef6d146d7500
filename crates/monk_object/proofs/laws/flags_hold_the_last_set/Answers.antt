use Rattle.monk_object.proofs.LastSet.{last_set as law}
use Rattle.monk_object.proofs.laws.flags_hold_the_last_set.Goals as goal

pub returns : goal.returns
returns c = law
