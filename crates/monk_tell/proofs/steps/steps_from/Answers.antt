use Rattle.std.proofs.Common.{◌≡◌, ◌+◌, arith}
use Rattle.monk_tell.proofs.steps.steps_from.Goals as goal
use Rattle.monk_tell.proofs.StepLaws.{step_told}
use Rattle.std.proofs.lemmas.Grind.{common_steps}

pub loop-index-preserved : goal.loop-index-preserved
loop-index-preserved g c =
    let h = c.args.history.header.now in
    let es = c.args.history.events.now in
    let before = c.args.before in
    let i = c.loop-index.index in
    let next : before + i + 1 ≡ before + (i + 1) = omega arith in
    grind (arith, common_steps, step_told)
