use Rattle.monk_judge.proofs.running.take_steps.Given as goal
use Rattle.monk_judge.{specs.Shown.setting_of, proofs.Reaching.Reached}

abbrev pub invariant-loop-index : goal.invariant-loop-index
invariant-loop-index g l =
    Reached g.T.Guarded.meaning (setting_of l.initial.judge g.T.Guarded.meaning) l.initial.judge.data_now l.lines
    l.index l.judge l.steps.items
