use Rattle.monk_history.proofs.MeaningLaws.EntryLaws.{enters_free, enters_handed}
use Rattle.monk_history.proofs.laws.seat_enters.Goals as goal

pub returns-clause-free : goal.returns-clause-free
returns-clause-free c = enters_free

pub returns-clause-handed : goal.returns-clause-handed
returns-clause-handed c = enters_handed
