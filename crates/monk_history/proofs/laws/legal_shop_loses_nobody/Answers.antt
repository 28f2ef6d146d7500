use Rattle.monk_history.proofs.MeaningLaws.ActLaws.{serves_each as law}
use Rattle.monk_history.proofs.laws.legal_shop_loses_nobody.Goals as goal

pub returns : goal.returns
returns c = law
