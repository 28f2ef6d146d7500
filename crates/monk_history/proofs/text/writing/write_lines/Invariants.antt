use Rattle.std.proofs.Common.{◌≡◌, false, length}
use Rattle.monk_history.proofs.text.writing.write_lines.Given as goal
use Rattle.monk_history.{specs.Text.Device.inner_of, specs.Text.Device.has_failed, proofs.TextLaws.PagedText.IsWritten}

abbrev pub invariant-loop-event : goal.invariant-loop-event
invariant-loop-event g l = record {
  sound : has_failed l.out ≡ false;
  written : IsWritten (g.W.Write.contents (inner_of l.fn.out))
      (g.W.Write.contents (inner_of l.out)) l.page l.header l.lines.1 l.fn.lines.1;
}

abbrev pub decreases-loop-event : goal.decreases-loop-event
decreases-loop-event g l = length l.lines.1
