use Rattle.monk_history.proofs.TextLaws.FirstFault.{fault_is_first}
use Rattle.monk_history.proofs.text.reading.fault_is_first.Goals as goal

pub returns : goal.returns
returns c = fault_is_first
