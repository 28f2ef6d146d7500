use Rattle.std.proofs.Common.{◌≡◌, ◌-◌, ◌+◌, sym, ◌∙◌, arith}
use Rattle.monk_history.proofs.TextLaws.FrontLaws.{read_flaw, read_ok}
use Rattle.monk_history.proofs.TextLaws.PieceLaws.{piece_goes_on, piece_has_fault, piece_too_long}
use Rattle.monk_history.proofs.text.lines.piece.PieceLines.next_for.Goals as goal
use Rattle.std.proofs.lemmas.Grind.{common_steps}

pub returns-then-self-eq0-clause-item : goal.returns-then-self-eq0-clause-item
returns-then-self-eq0-clause-item g c =
    let at_end : c.self.inside.end - c.self.inside.room ≡ c.self.inside.end = omega (arith, c.if-self-eq0.true) in
    rw c.at.ensures
    (rw at_end at (piece_too_long (g.A.Record.parse c.args.header.now) c.args.self.now c.self.inside.rest.now
    c.in-Some.ensures.line c.in-Some.after.now (c.self.inside.end - c.self.inside.room) c.self.inside.room
    (sym c.self.view_is) c.in-Some.ensures.begins c.if-self-eq0.true))

pub returns-in-Err-clause-item : goal.returns-in-Err-clause-item
returns-in-Err-clause-item g c =
    let number = c.self.inside.end - c.self.inside.room in
    rw c.at-in-Err.ensures
    (piece_has_fault (g.A.Record.parse c.args.header.now) c.args.self.now c.self.inside.rest.now c.in-Some.ensures.line
    c.in-Some.after.now number c.self.inside.room _ (sym c.self.view_is) c.in-Some.ensures.begins c.if-self-eq0.false
    (read_flaw number _ c.in-Err.flaw (sym c.in-Err.is ∙ c.in-Some.ensures.read)))

pub returns-clause-item : goal.returns-clause-item
returns-clause-item g c =
    let number = c.self.inside.end - c.self.inside.room in
    let more : c.self.inside.end - (c.self.inside.room - 1) ≡ number + 1 = grind (arith, common_steps) in
    rw more
    (piece_goes_on (g.A.Record.parse c.args.header.now) c.args.self.now c.self.inside.rest.now c.in-Some.ensures.line
    c.in-Some.after.now number c.self.inside.room c.in-Ok.item (sym c.self.view_is) c.in-Some.ensures.begins
    c.if-self-eq0.false (read_ok number _ c.in-Ok.item (sym c.in-Ok.is ∙ c.in-Some.ensures.read)))
