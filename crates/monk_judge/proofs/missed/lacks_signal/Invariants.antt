use Rattle.std.proofs.Common.{ℕ, ◌<◌, get_or}
use Rattle.monk_judge.proofs.missed.lacks_signal.Given as goal
use Rattle.monk_judge.specs.{declared.waits_for.WaitsFor.WaitsFor, Missed.AllHold, Missed.IsUnsignalled, Shown.state_of}

abbrev pub invariant-loop-waits : goal.invariant-loop-waits
invariant-loop-waits g l = (k : ℕ) (d : WaitsFor) → k < l.waits-index
    → IsUnsignalled (state_of l.judge) (get_or l.means k d).cond
    → AllHold g.T.Guarded.meaning l.means l.judge.data_now (get_or l.means k d).cond → ⊥
