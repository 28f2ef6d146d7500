use Rattle.std.{proofs.Common.take, specs.Fmt.HasWritten, specs.Fmt.IsPlainFormatter}
use Rattle.monk_object.proofs.in_words.ItemsDisplay.fmt.Given as goal
use Rattle.monk_object.specs.InWords.{spaced}

abbrev pub invariant-loop-item : goal.invariant-loop-item
invariant-loop-item g l =
    IsPlainFormatter l.fn.f
    → HasWritten g.W.Write.write_str_gives l.fn.f (spaced (take l.item-index l.item-items)) l.f
