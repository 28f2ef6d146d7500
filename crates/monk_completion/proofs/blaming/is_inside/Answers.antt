use Rattle.std.proofs.Common.{[]}
use Rattle.monk_completion.proofs.blaming.is_inside.Goals as goal

pub returns : goal.returns
returns c = c.is_inside.ensures []
