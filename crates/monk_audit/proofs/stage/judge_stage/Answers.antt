use Rattle.std.proofs.Common.{◌≡◌, refl}
use Rattle.std.specs.Option.{option_map}
use Rattle.monk_audit.specs.declared.stage.Stage.TheVariants as stage
use Rattle.monk_audit.proofs.stage.judge_stage.Goals as goal
use Rattle.monk_audit.proofs.{PieceLaws.judged_step, stage.judge_stage.Goals.in-Some, stage.judge_stage.Goals.in-None}
use Rattle.monk_audit.specs.declared.text_verdict.TextVerdict.TheVariants.{Judged}

pub returns-clause-step : goal.returns-clause-step
returns-clause-step g c =
    let next_is : c.match-verdict.next ≡ option_map (λ v. stage.Found c.judge_lines.new.course.header
    c.judge_lines.new.course.count (Judged v)) c.in_ok-verdict.verdict =
    elim c.match-verdict.branch [
      | in-Some w ↦ rw (w.next-is, w.in-Some.is) refl
      | in-None w ↦ rw (w.next-is, w.in-None.is) refl
    ] in
    judged_step c.in_ok-verdict.verdict c.match-verdict.next g.T.Guarded.meaning c.args.course.now
    c.judge_lines.new.course (g.T.Guarded.state c.args.object.now) (g.T.Guarded.state c.judge_lines.new.object)
    c.args.bytes.now c.in_ok-verdict.rest.now c.in_ok-verdict.ensures.step c.in_ok-verdict.ensures.sound.few next_is
