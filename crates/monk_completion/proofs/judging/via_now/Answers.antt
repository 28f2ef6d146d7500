use Rattle.std.proofs.Common.{◌∙◌, Bool, cond, [], sym, ap}
use Rattle.monk_history.specs.declared.event.Via.TheVariants.{Free, Handed}
use Rattle.monk_completion.proofs.judging.via_now.Goals as goal

pub returns-then-begun : goal.returns-then-begun
returns-then-begun c = ap (λ (b : Bool). cond b Handed Free) (sym c.if-begun.true ∙ c.begun.ensures [])

pub returns-else-begun : goal.returns-else-begun
returns-else-begun c = ap (λ (b : Bool). cond b Handed Free) (sym c.if-begun.false ∙ c.begun.ensures [])
