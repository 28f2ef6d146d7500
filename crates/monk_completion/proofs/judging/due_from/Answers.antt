use Rattle.std.proofs.Common.{◌∙◌, [], sym, ap}
use Rattle.monk_completion.specs.Stand.{due_from}
use Rattle.monk_completion.proofs.judging.due_from.Goals as goal

pub returns-in-Due : goal.returns-in-Due
returns-in-Due c = ap due_from (sym c.in-Due.is ∙ c.turn.ensures [])

pub returns-in-Open : goal.returns-in-Open
returns-in-Open c = ap due_from (sym c.in-Open.is ∙ c.turn.ensures [])

pub returns-in-Owned : goal.returns-in-Owned
returns-in-Owned c = ap due_from (sym c.in-Owned.is ∙ c.turn.ensures [])
