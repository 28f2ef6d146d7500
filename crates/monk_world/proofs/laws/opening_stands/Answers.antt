use Rattle.monk_world.proofs.StepLaws.{opening_stands as law}
use Rattle.monk_world.proofs.laws.opening_stands.Goals as goal

pub returns : goal.returns
returns c = law
