use Rattle.monk_judge.specs.Shown.{IsFirstBelow}
use Rattle.monk_judge.proofs.judge.Judge.first_back.Given as goal

abbrev pub invariant-loop-index : goal.invariant-loop-index
invariant-loop-index g l = IsFirstBelow l.index l.self l.cond l.first
