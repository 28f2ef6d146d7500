use Rattle.monk_tell.proofs.FrontLaws.{all_told, only_told}
use Rattle.monk_tell.proofs.laws.permitted_are_listed.Goals as goal

pub returns : goal.returns
returns c = record { all = all_told; only = only_told }
