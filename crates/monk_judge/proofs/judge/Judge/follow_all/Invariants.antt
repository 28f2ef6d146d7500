use Rattle.std.proofs.Common.{◌≡◌, drop}
use Rattle.monk_judge.proofs.judge.Judge.follow_all.Given as goal
use Rattle.monk_judge.specs.{Judged.after_all, Run.IsRun, Shown.setting_of, Shown.state_of}

-- the remaining steps are a run, and lead where all steps lead
abbrev pub invariant-loop-step : goal.invariant-loop-step
invariant-loop-step g l =
    let o = g.T.Guarded.meaning in
    let m = setting_of l.initial.self o in
    let left = drop l.step-index l.steps in
    record {
      setting : setting_of l.self o ≡ m;
      run : IsRun m (state_of l.self) left;
      leads : after_all m (state_of l.self) left ≡ after_all m (state_of l.initial.self) l.steps;
    }
