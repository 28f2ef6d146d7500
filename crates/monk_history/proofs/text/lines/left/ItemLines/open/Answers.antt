use Rattle.std.proofs.{lemmas.Result.err_from_is_err_and, lemmas.Grind.common_steps, Common.arith}
use Rattle.monk_history.proofs.text.lines.left.ItemLines.open.Goals as goal
use Rattle.monk_history.proofs.TextLaws.LineSteps.{no_header, some_header}

pub returns-in_err-header : goal.returns-in_err-header
returns-in_err-header g c =
    let p = err_from_is_err_and c.from_residual.result c.from_residual.ensures.1 in
    rw (p.1, p.2) (no_header g.H.Head.parse c.args.limit c.args.bytes.now c.in-Some.first.now c.in-Some.rest.now
    c.in_err-header.field-0.0 c.in-Some.ensures.parts c.in_err-header.ensures)

pub returns : goal.returns
returns g c = grind (arith, common_steps, some_header)
