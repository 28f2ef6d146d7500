use Rattle.monk_history.proofs.MeaningLaws.ActLaws.{acts_are_run as law}
use Rattle.monk_history.proofs.laws.acts_are_a_run.Goals as goal

pub returns : goal.returns
returns c = law
