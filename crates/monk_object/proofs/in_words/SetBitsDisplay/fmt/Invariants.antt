use Rattle.std.specs.Fmt.{HasWritten, IsPlainFormatter}
use Rattle.monk_object.specs.InWords.{bits_below}
use Rattle.monk_object.proofs.in_words.SetBitsDisplay.fmt.Given as goal

abbrev pub invariant-loop-place : goal.invariant-loop-place
invariant-loop-place g l =
    IsPlainFormatter l.fn.f
    → HasWritten g.W.Write.write_str_gives l.fn.f (bits_below l.self.0 l.place-counter) l.f
