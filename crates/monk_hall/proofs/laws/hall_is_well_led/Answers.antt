use Rattle.monk_hall.proofs.RuleLaws.{right_in_one_place, shows_well_led}
use Rattle.monk_hall.proofs.laws.hall_is_well_led.Goals as goal

pub returns : goal.returns
returns c = record { right = right_in_one_place; led = shows_well_led }
