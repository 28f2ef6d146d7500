use Rattle.monk_logs.proofs.LogLaws.LogText.{log_one}
use Rattle.monk_logs.proofs.text.reading.one_log_each.Goals as goal

pub returns : goal.returns
returns c = log_one
