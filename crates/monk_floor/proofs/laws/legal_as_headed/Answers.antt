use Rattle.monk_floor.proofs.HeadedLaws.{legal_as_headed as law}
use Rattle.monk_floor.proofs.laws.legal_as_headed.Goals as goal

pub returns : goal.returns
returns c = law
