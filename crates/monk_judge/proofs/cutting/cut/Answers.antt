use Rattle.std.proofs.Common.{◌≡◌, ◌-◌, ◌<◌, ◌≤◌, suc, length, arith}
use Rattle.monk_judge.proofs.Following.{IsCut, cut_ends, cut_goes_on}
use Rattle.monk_judge.proofs.cutting.cut.Goals as goal
use Rattle.std.proofs.lemmas.Grind.{common_steps}

pub loop-index-preserved : goal.loop-index-preserved
loop-index-preserved c =
    let lt : c.loop-index.index < length c.args.steps.now = omega arith in
    let some : c.loop-index.left ≡ suc (c.loop-index.left - 1) = omega arith in
    grind (arith, common_steps, IsCut, cut_goes_on)

pub returns-clause-first : goal.returns-clause-first
returns-clause-first c =
    let all : length c.args.steps.now ≤ c.loop-index.index = omega arith in
    (cut_ends c.args.lines c.args.steps.now c.loop-index.index c.loop-index.left all c.loop-index.invariant).0

pub returns-clause-behind : goal.returns-clause-behind
returns-clause-behind c =
    let all : length c.args.steps.now ≤ c.loop-index.index = omega arith in
    (cut_ends c.args.lines c.args.steps.now c.loop-index.index c.loop-index.left all c.loop-index.invariant).1
