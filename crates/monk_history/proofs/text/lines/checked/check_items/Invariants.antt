use Rattle.monk_history.proofs.text.lines.checked.check_items.Given as goal
use Rattle.monk_history.{specs.Text.Lines.items_left, proofs.TextLaws.LineSteps.IsBehind}

abbrev pub invariant-loop : goal.invariant-loop
invariant-loop g l =
    IsBehind (items_left (g.A.Record.parse l.header) l.lines) (items_left (g.A.Record.parse l.header) l.fn.lines)

abbrev pub decreases-loop : goal.decreases-loop
decreases-loop g l = l.lines.room
