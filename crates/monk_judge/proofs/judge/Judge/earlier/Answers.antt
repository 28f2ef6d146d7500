use Rattle.std.proofs.Common.{inr, subst, sym}
use Rattle.monk_judge.specs.Ends.{ResumesBy}
use Rattle.monk_judge.proofs.judge.Judge.earlier.Goals as goal

pub returns-then-is_before-clause-strict : goal.returns-then-is_before-clause-strict
returns-then-is_before-clause-strict g c = inr
    (λ later. c.is_before.ensures.strictly c.if-is_before.true
    (λ n by. subst (λ e. ResumesBy e n) (sym c.end_of-2.ensures)
    (later n (subst (λ e. ResumesBy e n) c.end_of.ensures by))))
