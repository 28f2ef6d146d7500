use Rattle.std.proofs.Common.{◌≡◌}
use Rattle.monk_history.proofs.text.lines.reading.items_of.Given as goal
use Rattle.monk_history.{specs.Text.Lines.items_left, proofs.TextLaws.LineSteps.with_front}

abbrev pub invariant-loop-items : goal.invariant-loop-items
invariant-loop-items g l = with_front l.items.items (items_left (g.A.Record.parse l.header) l.lines) ≡ items_left
    (g.A.Record.parse l.header) l.fn.lines

abbrev pub decreases-loop-items : goal.decreases-loop-items
decreases-loop-items g l = l.lines.room
