use Rattle.monk_logs.specs.declared.text.reading.TheConstants.{MOST_LOG_LINES}
use Rattle.monk_logs.proofs.LogLaws.LogText.{is_found, is_only}
use Rattle.monk_logs.proofs.text.reading.read_log.Goals as goal

pub returns-clause-found : goal.returns-clause-found
returns-clause-found c = is_found MOST_LOG_LINES c.args.bytes.now c.read_lines.result c.read_lines.ensures

pub returns-clause-only : goal.returns-clause-only
returns-clause-only c =
    λ h ls has le same. is_only MOST_LOG_LINES c.args.bytes.now c.read_lines.result h ls has le same
    c.read_lines.ensures
