use Rattle.monk_floor.proofs.LinkLaws.Empty.{empty_linked, empty_shown}
use Rattle.monk_floor.proofs.links.Links.new.Goals as goal

pub invariant_of-result : goal.invariant_of-result
invariant_of-result c = empty_linked _

pub returns : goal.returns
returns c = empty_shown _
