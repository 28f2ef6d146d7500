use Rattle.monk_object.specs.Refused.{refused as law}
use Rattle.monk_object.proofs.laws.refused_changes_nothing.Goals as goal

pub returns : goal.returns
returns c = law
