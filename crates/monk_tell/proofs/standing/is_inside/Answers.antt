use Rattle.std.proofs.Common.{[]}
use Rattle.monk_tell.proofs.standing.is_inside.Goals as goal

pub returns : goal.returns
returns c = c.is_inside.ensures []
