use Rattle.monk_world.proofs.StepLaws.{right_is_in_one_place as law}
use Rattle.monk_world.proofs.laws.right_is_in_one_place.Goals as goal

pub returns : goal.returns
returns c = law
