use Rattle.std.proofs.{Common.arith, lemmas.Grind.common_steps}
use Rattle.monk_history.proofs.text.lines.next.item_of_words.Goals as goal
use Rattle.monk_history.proofs.TextLaws.FrontLaws.{cut_begins, cut_unended, read_is}

pub returns-in_err-line : goal.returns-in_err-line
returns-in_err-line g c = rw c.from_residual.ensures (cut_unended c.args.bytes.now c.in_err-line.ensures.parts)

pub returns : goal.returns
returns g c = record {
  line = c.in_ok-line.line.now;
  begins = cut_begins c.args.bytes.now c.in_ok-line.line.now c.in_ok-line.rest.now c.in_ok-line.ensures.parts;
  read = grind (arith, common_steps, read_is);
}
