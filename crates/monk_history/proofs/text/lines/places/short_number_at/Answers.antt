use Rattle.std.proofs.{Common.arith, lemmas.Grind.common_steps}
use Rattle.monk_history.proofs.text.lines.places.short_number_at.Goals as goal
use Rattle.monk_history.proofs.TextLaws.PlaceLaws.{number_begins, number_goes_on, number_stands}

pub returns-then-second-end-clause-stands : goal.returns-then-second-end-clause-stands
returns-then-second-end-clause-stands c = grind (arith, common_steps, number_stands, number_begins)

pub returns-clause-stands : goal.returns-clause-stands
returns-clause-stands c = grind (arith, common_steps, number_stands, number_goes_on, number_begins)
