use Rattle.std.proofs.Common.{arith, ◌<◌, ◌+◌, ◌≤◌, length, refl}
use Rattle.monk_history.specs.declared.event.{Event.TheVariants.Wait, Next.TheVariants.Stay}
use Rattle.monk_samples.proofs.styles.conditional.pause.Goals as goal
use Rattle.monk_samples.proofs.StyleLaws.{came_back, given_up, paused}

pub returns-then-left-lt3 : goal.returns-then-left-lt3
returns-then-left-lt3 g c =
    let has = c.left.ensures.left in let few = c.if-left-lt3.true in
    let short : c.args.active.me.setting.budget < length c.args.active.me.mine + 3 = omega arith in
    given_up g.K.Kind.rules g.T.Guarded.meaning c.args.active _ _ c.leave.result 3 c.leave.ensures short
    (omega arith) (omega arith)

pub returns : goal.returns
returns g c =
    let has = c.left.ensures.left in let enough = c.if-left-lt3.false in
    let k = g.K.Kind.rules in let o = g.T.Guarded.meaning in let a = c.args.active in
    let room : length a.me.mine + 3 ≤ a.me.setting.budget = omega arith in
    paused k o c.args.wish a (Wait a.me.seat c.args.cond Stay) c.resume.result room c.left.ensures.floor
    (came_back k o c.args.wish a (Wait a.me.seat c.args.cond Stay) _ _ c.plain_wait.result c.resume.result
    (λ x. (refl, refl, refl))
    c.plain_wait.ensures c.resume.ensures.entered)
