use Rattle.std.proofs.Common.{arith, ◌<◌, ◌+◌, ◌≤◌, length, refl}
use Rattle.monk_history.specs.declared.event.{Event.TheVariants.Until, Next.TheVariants.Stay}
use Rattle.monk_samples.proofs.styles.automatic.pause.Goals as goal
use Rattle.monk_samples.proofs.{StyleLaws.went_on, StyleLaws.given_up, StyleLaws.paused, AwaitLaws.until_held}
use Rattle.std.proofs.lemmas.Grind.{common_steps}

pub returns-then-left-lt3-clause-paused : goal.returns-then-left-lt3-clause-paused
returns-then-left-lt3-clause-paused g c =
    let has = c.left.ensures.left in let few = c.if-left-lt3.true in
    let short : c.args.active.me.setting.budget < length c.args.active.me.mine + 3 = omega arith in
    given_up g.K.Kind.rules g.T.Guarded.meaning c.args.active _ _ c.leave.result 3 c.leave.ensures short
    (omega arith) (omega arith)

pub returns-clause-paused : goal.returns-clause-paused
returns-clause-paused g c =
    let has = c.left.ensures.left in let enough = c.if-left-lt3.false in
    let k = g.K.Kind.rules in let o = g.T.Guarded.meaning in let a = c.args.active in
    let room : length a.me.mine + 3 ≤ a.me.setting.budget = omega arith in
    paused k o c.args.wish a (Until a.me.seat c.args.pred Stay) c.go_on.result room c.left.ensures.floor
    (went_on k o c.args.wish c.plain_until.result a (Until a.me.seat c.args.pred Stay) _ _ c.go_on.result
    (λ x. (refl, refl, refl))
    c.plain_until.ensures c.go_on.ensures)

pub returns-clause-holds : goal.returns-clause-holds
returns-clause-holds g c = grind (arith, common_steps, until_held)
