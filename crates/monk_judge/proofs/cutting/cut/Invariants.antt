use Rattle.monk_judge.proofs.Following.{IsCut}
use Rattle.monk_judge.proofs.cutting.cut.Given as goal

abbrev pub invariant-loop-index : goal.invariant-loop-index
invariant-loop-index l = IsCut l.lines l.steps l.index l.left
