use Rattle.std.proofs.Common.{◌≡◌, ℕ, ◌<◌, get_or}
use Rattle.monk_judge.proofs.missed.all_hold.Given as goal
use Rattle.monk_judge.specs.{declared.waits_for.WaitsFor.WaitsFor, Missed.Holds}

abbrev pub invariant-loop-waits : goal.invariant-loop-waits
invariant-loop-waits g l = (k : ℕ) (d : WaitsFor) → k < l.waits-index → (get_or l.means k d).cond ≡ l.cond
    → Holds g.T.Guarded.meaning l.judge.data_now (get_or l.means k d).pred
