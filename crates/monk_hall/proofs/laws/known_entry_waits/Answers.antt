use Rattle.monk_hall.proofs.RuleLaws.{known_waits as law}
use Rattle.monk_hall.proofs.laws.known_entry_waits.Goals as goal

pub returns : goal.returns
returns c = law
