use Rattle.monk_world.proofs.StepLaws.{ticket_look_keeps_the_right as law}
use Rattle.monk_world.proofs.laws.ticket_look_keeps_the_right.Goals as goal

pub returns : goal.returns
returns c = law
