use Rattle.std.proofs.Common.{arith, ◌<◌, ◌+◌, length, None}
use Rattle.monk_samples.proofs.visit.act.Goals as goal
use Rattle.monk_samples.proofs.{StyleLaws.given_up, PauseLaws.acted_now, PauseLaws.left_after, PauseLaws.paused_none}
use Rattle.monk_samples.proofs.TrailLaws.{called_none, replied}
use Rattle.monk_samples.specs.Trails.{inside}
use Rattle.std.proofs.lemmas.Grind.{common_steps}

pub returns-then-left-lt2-clause-acted : goal.returns-then-left-lt2-clause-acted
returns-then-left-lt2-clause-acted g c =
    let k = g.K.Kind.rules in let o = g.T.Guarded.meaning in let a = c.args.active in
    let has = c.left.ensures.left in let few = c.if-left-lt2.true in
    let short : a.me.setting.budget < length a.me.mine + 2 = omega arith in
    left_after k o (inside a) None a c.leave.result (paused_none k o (inside a) None a (called_none (inside a)))
    2 (given_up k o a _ _ c.leave.result 2 c.leave.ensures short (omega arith) (omega arith)) (omega arith)

pub returns-clause-acted : goal.returns-clause-acted
returns-clause-acted g c = grind (arith, common_steps, acted_now, replied)
