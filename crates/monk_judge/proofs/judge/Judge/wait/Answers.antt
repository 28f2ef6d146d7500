use Rattle.std.proofs.Common.{◌∙◌, ◌∷◌, None, sym, ap, arith}
use Rattle.std.proofs.Math.ListN.{set}
use Rattle.monk_logs.specs.declared.text.line.LogLine.TheVariants as lines
use Rattle.monk_judge.proofs.judge.Judge.wait.Goals as goal
use Rattle.monk_judge.proofs.{Naming.wait_names, Shows.ran_out_setting, Shows.ran_out_state}
use Rattle.monk_judge.specs.{declared.step.Step.TheVariants.Tells, Ends.runs_out, Shown.setting_of, Shown.state_of}
use Rattle.monk_judge.specs.Judged.{after_all, running_out}

pub returns-in-RunsOut : goal.returns-in-RunsOut
returns-in-RunsOut g c =
    let o = g.T.Guarded.meaning in
    let old = c.args.self.now in
    let e = ap (λ v. v.conds) c.self.view_is in
    let ends = set old.ends c.args.seat c.args.end in
    record {
      stands = (c.in_ok-holds.ensures.0, omega (arith, e), c.in_ok-holds.ensures.1);
      right = tt;
      earliest = tt;
      leads = ap state_of c.sleep.ensures
          ∙ ran_out_state old o c.args.seat c.args.cond ends c.in_ok-holds.ensures.0
          ∙ ap
          (λ b. after_all (setting_of old o) (state_of old)
          (Tells (lines.Wait c.args.seat c.args.cond) None ∷ running_out c.args.seat b))
          (sym (ap runs_out c.in-RunsOut.is));
      setting = ap (λ v. setting_of v o) c.sleep.ensures ∙ ran_out_setting old o c.args.seat c.args.cond ends;
      ends = ap (λ v. v.ends) c.sleep.ensures;
      names = wait_names (setting_of old o) (state_of old) c.args.seat c.args.cond (runs_out c.args.end);
    }
