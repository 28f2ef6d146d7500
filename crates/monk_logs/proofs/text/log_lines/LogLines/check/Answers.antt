use Rattle.std.proofs.Common.{sym, ap, ◌∙◌, arith}
use Rattle.std.proofs.lemmas.{Result.err_from_is_err_and, Grind.common_steps}
use Rattle.monk_logs.proofs.text.log_lines.LogLines.check.Goals as goal
use Rattle.monk_logs.proofs.LogLaws.LogText.{log_again, log_read}
use Rattle.monk_logs.specs.{declared.text.reading.TheConstants.MOST_LOG_LINES, Log.Reading.log_at}

pub returns-in_err-lines-clause-only : goal.returns-in_err-lines-clause-only
returns-in_err-lines-clause-only c =
    let p = err_from_is_err_and c.from_residual.result c.from_residual.ensures.1 in
    grind (arith, common_steps, log_again)

pub returns-clause-found : goal.returns-clause-found
returns-clause-found c =
    log_read MOST_LOG_LINES c.args.bytes.now c.in_ok-lines.lines (sym c.in_ok-lines.ensures)

pub returns-clause-only : goal.returns-clause-only
returns-clause-only c =
    λ h ls has le same. c.in_ok-lines.ensures ∙ (ap (log_at MOST_LOG_LINES) same ∙ log_again MOST_LOG_LINES h ls has le)

pub invariant_of-result : goal.invariant_of-result
invariant_of-result c =
    (log_read MOST_LOG_LINES c.args.bytes.now c.in_ok-lines.lines (sym c.in_ok-lines.ensures)).1
