use Rattle.std.proofs.Common.{◌≡◌, ◌++◌, map, drop}
use Rattle.std.specs.List.{flat_map}
use Rattle.monk_draw.specs.Scene.{row_of}
use Rattle.monk_judge.specs.{Followed.followed, Run.IsRun, Shown.setting_of, Shown.state_of}
use Rattle.monk_page.proofs.log_scene.rows.Given as goal
use Rattle.monk_page.specs.LogScene.{rows, rows_behind}

-- the rows so far and the rows of the remaining steps, which are a run, are the rows of all steps
abbrev pub invariant-loop-step : goal.invariant-loop-step
invariant-loop-step g l =
    let o = g.T.Guarded.meaning in
    let m = setting_of l.fn.judge o in
    let left = drop l.step-index l.steps in
    record {
      setting : setting_of l.judge o ≡ m;
      run : IsRun m (state_of l.judge) left;
      rows : map row_of l.rows.items ++ flat_map (rows_behind m.seats) (followed m (state_of l.judge) left)
          ≡ rows m (state_of l.fn.judge) l.steps;
    }
