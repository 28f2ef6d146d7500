use Rattle.std.proofs.{Output.has_written_append, Output.has_written_of_eq, lemmas.Grind.common_steps}
use Rattle.std.proofs.Common.{codes, arith}
use Rattle.monk_object.proofs.in_words.ItemsDisplay.fmt.Goals as goal
use Rattle.monk_object.proofs.Printed.{printed_more}

pub loop-item-preserved : goal.loop-item-preserved
loop-item-preserved g c = λ plain.
    let so_far = c.loop-item.invariant plain in
    grind (arith, common_steps, has_written_of_eq, printed_more, codes, has_written_append)
