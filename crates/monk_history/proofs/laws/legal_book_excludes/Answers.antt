use Rattle.monk_history.proofs.MeaningLaws.ActLaws.{excludes as law}
use Rattle.monk_history.proofs.laws.legal_book_excludes.Goals as goal

pub returns : goal.returns
returns c = law
