use Rattle.std.proofs.{Common.arith, lemmas.Grind.common_steps}
use Rattle.monk_world.proofs.words.WorldWords.seat_look.Goals as goal
use Rattle.monk_world.proofs.StoredLaws.{place_stored, count_stored, count_read}

pub returns-clause-shows : goal.returns-clause-shows
returns-clause-shows c = grind (arith, common_steps, count_read, place_stored, count_stored)
