use Rattle.std.proofs.{Common.arith, lemmas.Grind.common_steps}
use Rattle.monk_samples.proofs.book.write_end_all.Goals as goal
use Rattle.monk_samples.proofs.VisitLaws.{finished, visited_out}

pub returns-then-waits : goal.returns-then-waits
returns-then-waits g c = grind (arith, common_steps, visited_out)

pub returns-else-waits : goal.returns-else-waits
returns-else-waits g c = grind (arith, common_steps, visited_out, finished)

pub returns-in-Err : goal.returns-in-Err
returns-in-Err g c = grind (arith, common_steps)
