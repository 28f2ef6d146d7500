use Rattle.std.proofs.Common.{◌≡◌, ℕ, List, subst, sym, arith}
use Rattle.std.proofs.lemmas.{Bool.Decides.nat_tests, Grind.common_steps}
use Rattle.monk_judge.proofs.PublicLaws.{run_cut}
use Rattle.monk_judge.specs.{Followed.behind_lines, Followed.telling, Judged.after_all, Run.IsRun, Run.Setting}
use Rattle.monk_judge.specs.{Run.State, Shown.setting_of, Shown.state_of, declared.step.Step.Step}
use Rattle.monk_page.proofs.log_data.lead.Goals as goal

-- the steps that are shown are a run from the state after the steps before them
shown_run : (m k : Setting) (x y : State) (steps early rest shown : List Step) (before many : ℕ)
    → IsRun m x steps → early ≡ telling before steps → rest ≡ behind_lines before steps
    → shown ≡ telling many rest → k ≡ m → y ≡ after_all m x early → IsRun k y shown
shown_run m k x y steps early rest shown before many run first behind then same leads =
    let parts = run_cut m x before steps run in
    let from = after_all m x (telling before steps) in
    let part = run_cut m from many (behind_lines before steps) parts.1 in
    grind (arith, nat_tests)

pub follow_all-requires-after_bounds : goal.follow_all-requires-after_bounds
follow_all-requires-after_bounds g c = λ κs within.
    let m = setting_of c.args.judge.now g.T.Guarded.meaning in
    let x = state_of c.args.judge.now in
    subst (IsRun m x) (sym c.cut.ensures.first) (run_cut m x c.args.span.before c.args.steps.now c.requires).0

pub returns-clause-run : goal.returns-clause-run
returns-clause-run g c =
    let o = g.T.Guarded.meaning in
    grind (arith, common_steps, shown_run)
