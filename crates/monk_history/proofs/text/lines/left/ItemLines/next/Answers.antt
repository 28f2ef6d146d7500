use Rattle.std.proofs.Common.{sym, ◌∙◌}
use Rattle.monk_history.proofs.TextLaws.FrontLaws.{lines_first, lines_none, read_flaw, read_ok}
use Rattle.monk_history.proofs.TextLaws.LineSteps.{is_done, is_unfinished, is_long, has_fault, goes_on}
use Rattle.monk_history.proofs.text.lines.left.ItemLines.next.Goals.{then-is_empty, else-is_empty}
use Rattle.monk_history.proofs.text.lines.left.ItemLines.next.Goals as goal

pub returns-in_default-clause-item : goal.returns-in_default-clause-item
returns-in_default-clause-item g c = elim c.if-is_empty.branch [
  | then-is_empty w ↦ rw w.result-is
      (is_done (g.A.Record.parse c.args.header.now) c.args.self.now c.self.inside.rest.now c.self.inside.number
      c.self.inside.room (sym c.self.view_is) (lines_none _ c.in_default.ensures)
      (sym c.is_empty.ensures ∙ w.if-is_empty.true))
  | else-is_empty w ↦ rw (w.result-is, w.at.ensures)
      (is_unfinished (g.A.Record.parse c.args.header.now) c.args.self.now c.self.inside.rest.now c.self.inside.number
      c.self.inside.room (sym c.self.view_is) (lines_none _ c.in_default.ensures)
      (sym c.is_empty.ensures ∙ w.if-is_empty.false))
]

pub returns-then-self-eq0-clause-item : goal.returns-then-self-eq0-clause-item
returns-then-self-eq0-clause-item g c =
    rw c.at-then-self-eq0.ensures
    (is_long (g.A.Record.parse c.args.header.now) c.args.self.now c.self.inside.rest.now c.in-Some.ensures.line
    c.in-Some.after.now c.self.inside.number c.self.inside.room (sym c.self.view_is)
    (lines_first c.in-Some.ensures.begins) c.if-self-eq0.true)

pub returns-in-Err-clause-item : goal.returns-in-Err-clause-item
returns-in-Err-clause-item g c =
    rw c.at-in-Err.ensures
    (has_fault (g.A.Record.parse c.args.header.now) c.args.self.now c.self.inside.rest.now c.in-Some.ensures.line
    c.in-Some.after.now c.self.inside.number c.self.inside.room _ (sym c.self.view_is)
    (lines_first c.in-Some.ensures.begins) c.if-self-eq0.false
    (read_flaw c.self.inside.number _ c.in-Err.flaw (sym c.in-Err.is ∙ c.in-Some.ensures.read)))

pub returns-clause-item : goal.returns-clause-item
returns-clause-item g c =
    goes_on (g.A.Record.parse c.args.header.now) c.args.self.now c.self.inside.rest.now c.in-Some.ensures.line
    c.in-Some.after.now c.self.inside.number c.self.inside.room c.in-Ok.item (sym c.self.view_is)
    (lines_first c.in-Some.ensures.begins) c.if-self-eq0.false
    (read_ok c.self.inside.number _ c.in-Ok.item (sym c.in-Ok.is ∙ c.in-Some.ensures.read))
