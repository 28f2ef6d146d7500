use Rattle.monk_history.proofs.MeaningLaws.ActLaws.{holds_last as law}
use Rattle.monk_history.proofs.laws.legal_flags_hold_the_last_set.Goals as goal

pub returns : goal.returns
returns c = law
