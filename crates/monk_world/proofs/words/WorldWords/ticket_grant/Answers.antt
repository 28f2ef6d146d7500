use Rattle.std.proofs.{Common.arith, lemmas.Nat.mod_below, lemmas.Grind.common_steps}
use Rattle.monk_world.proofs.words.WorldWords.ticket_grant.Goals as goal
use Rattle.monk_world.proofs.StoredLaws.{place_stored, ticket_stored}

pub returns-clause-shows : goal.returns-clause-shows
returns-clause-shows c = grind (arith, common_steps, mod_below, place_stored, ticket_stored)
