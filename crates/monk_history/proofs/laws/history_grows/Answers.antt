use Rattle.monk_history.proofs.MeaningLaws.LegalLaws.{legal_none, legal-push, legal_front}
use Rattle.monk_history.proofs.laws.history_grows.Goals as goal

pub returns-clause-none : goal.returns-clause-none
returns-clause-none c = legal_none

pub returns-clause-more : goal.returns-clause-more
returns-clause-more c = legal-push

pub returns-clause-front : goal.returns-clause-front
returns-clause-front c = legal_front
