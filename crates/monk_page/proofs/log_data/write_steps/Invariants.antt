use Rattle.std.proofs.Common.{◌≡◌, drop}
use Rattle.monk_judge.specs.{Followed.followed, Run.IsRun, Shown.setting_of, Shown.state_of}
use Rattle.monk_page.proofs.log_data.write_steps.Given as goal
use Rattle.monk_page.{specs.Log.told_json, proofs.WriteLaws.WritesList}

-- the remaining steps are a run from the state in which the judge is
abbrev pub invariant-loop-step : goal.invariant-loop-step
invariant-loop-step g l =
    let m = setting_of l.initial.judge g.T.Guarded.meaning in
    let left = drop l.step-index l.steps in
    record {
      setting : setting_of l.judge g.T.Guarded.meaning ≡ m;
      run : IsRun m (state_of l.judge) left;
      written : WritesList (told_json m.seats) (followed m (state_of l.judge) left)
          (followed m (state_of l.initial.judge) l.steps) l.fn.out.writer l.out.writer;
    }
