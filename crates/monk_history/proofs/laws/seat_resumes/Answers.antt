use Rattle.monk_history.proofs.MeaningLaws.EntryLaws.{resumes}
use Rattle.monk_history.proofs.laws.seat_resumes.Goals as goal

pub returns : goal.returns
returns c = resumes
