use Rattle.monk_world.proofs.RunLaws.{runs_are_well_led as law}
use Rattle.monk_world.proofs.laws.runs_are_well_led.Goals as goal

pub returns : goal.returns
returns c = law
