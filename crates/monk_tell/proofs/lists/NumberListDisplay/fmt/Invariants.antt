use Rattle.std.{proofs.Common.take, specs.Fmt.HasWritten, specs.Fmt.IsPlainFormatter}
use Rattle.monk_tell.proofs.lists.NumberListDisplay.fmt.Given as goal
use Rattle.monk_tell.specs.Words.{numbers_text}

abbrev pub invariant-loop-number : goal.invariant-loop-number
invariant-loop-number g l =
    IsPlainFormatter l.fn.f
    → HasWritten g.W.Write.write_str_gives l.fn.f (numbers_text (take l.number-index l.number-items)) l.f
