use Rattle.std.proofs.{Output.has_written_append, Output.has_written_of_eq, lemmas.Grind.common_steps}
use Rattle.std.proofs.Common.{codes, arith}
use Rattle.monk_tell.proofs.lists.NumberListDisplay.fmt.Goals as goal
use Rattle.monk_tell.proofs.ListLaws.{printed_more}

pub loop-number-preserved : goal.loop-number-preserved
loop-number-preserved g c = λ plain.
    let so_far = c.loop-number.invariant plain in
    grind (arith, common_steps, has_written_of_eq, printed_more, codes, has_written_append)
