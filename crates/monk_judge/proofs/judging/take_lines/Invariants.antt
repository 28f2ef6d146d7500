use Rattle.monk_judge.proofs.judging.take_lines.Given as goal
use Rattle.monk_judge.{specs.Shown.setting_of, proofs.Taking.Taken}

abbrev pub invariant-loop-index : goal.invariant-loop-index
invariant-loop-index g l =
    Taken g.T.Guarded.meaning (setting_of l.initial.judge g.T.Guarded.meaning) l.initial.judge.data_now l.lines
    l.means l.index l.judge l.seen.tally l.seen.missed l.seen.passed.passing l.seen.passed.seats l.seen.hints
