use Rattle.monk_history.proofs.MeaningLaws.ActLaws.{in_order as law}
use Rattle.monk_history.proofs.laws.legal_buffer_is_in_order.Goals as goal

pub returns : goal.returns
returns c = law
