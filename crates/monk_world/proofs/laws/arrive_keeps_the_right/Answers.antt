use Rattle.monk_world.proofs.StepLaws.{arrive_keeps_the_right as law}
use Rattle.monk_world.proofs.laws.arrive_keeps_the_right.Goals as goal

pub returns : goal.returns
returns c = law
