use Rattle.std.proofs.{Common.arith, lemmas.Grind.common_steps}
use Rattle.monk_samples.proofs.crew.round.use_book.Goals as goal

pub returns-then-seat-rota-clause-visited : goal.returns-then-seat-rota-clause-visited
returns-then-seat-rota-clause-visited g c = grind (arith, common_steps)

pub returns-else-seat-rota-clause-visited : goal.returns-else-seat-rota-clause-visited
returns-else-seat-rota-clause-visited g c = grind (arith, common_steps)
