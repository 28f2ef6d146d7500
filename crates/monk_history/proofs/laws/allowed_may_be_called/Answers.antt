use Rattle.monk_history.proofs.MeaningLaws.EntryLaws.{allowed_called}
use Rattle.monk_history.proofs.laws.allowed_may_be_called.Goals as goal

pub returns : goal.returns
returns c = λ m h e a. allowed_called m _ e a
