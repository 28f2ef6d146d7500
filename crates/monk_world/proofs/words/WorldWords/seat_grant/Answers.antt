use Rattle.std.proofs.{Common.arith, lemmas.Grind.common_steps}
use Rattle.monk_world.proofs.words.WorldWords.seat_grant.Goals as goal
use Rattle.monk_world.proofs.StoredLaws.{place_stored, call_stored, call_read}

pub returns-clause-shows : goal.returns-clause-shows
returns-clause-shows c = grind (arith, common_steps, place_stored, call_stored, call_read)
