use Rattle.std.proofs.{Common.rules, lemmas.Bool.eqb-true}
use Rattle.monk_history.proofs.text.lines.places.four_stand_at.Goals as goal
use Rattle.monk_history.proofs.TextLaws.PlaceLaws.{four_stand, four_same}

pub returns : goal.returns
returns c same = search (rules, four_stand, four_same, rules, eqb-true)
