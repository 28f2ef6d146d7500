use Rattle.monk_hall.proofs.RuleLaws.{entry_waits as law}
use Rattle.monk_hall.proofs.laws.chosen_entry_waits.Goals as goal

pub returns : goal.returns
returns c = law
