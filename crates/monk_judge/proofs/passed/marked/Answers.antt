use Rattle.std.proofs.Common.{◌∙◌, Some, ap, if◌then◌else◌, sym}
use Rattle.monk_judge.specs.Hints.{marked}
use Rattle.monk_judge.proofs.passed.marked.Goals as goal

pub returns-in-Some-2 : goal.returns-in-Some-2
returns-in-Some-2 c = λ log are.
    sym (ap (λ p. marked log c.args.rival p c.args.was) c.in-Some.is
    ∙ ap (λ b. if b then Some c.in-Some.cond else c.args.was) (sym (c.has.ensures log are) ∙ c.if-has.false))
