use Rattle.std.proofs.Common.{arith, ◌<◌, ◌+◌, length, refl}
use Rattle.monk_kinds.specs.declared.mode.Pick.TheVariants.{Waiter}
use Rattle.monk_history.specs.declared.event.{Event.TheVariants.SignalWait, Next.TheVariants.Stay}
use Rattle.monk_samples.proofs.styles.passing.signal_wait_and_leave.Goals as goal
use Rattle.monk_samples.proofs.StyleLaws.{called_out, came_back, given_up}

pub returns-then-left-lt3 : goal.returns-then-left-lt3
returns-then-left-lt3 g c =
    let has = c.left.ensures.left in let few = c.if-left-lt3.true in
    let short : c.args.active.me.setting.budget < length c.args.active.me.mine + 3 = omega arith in
    given_up g.K.Kind.rules g.T.Guarded.meaning c.args.active _ _ c.leave.result 3 c.leave.ensures short
    (omega arith) (omega arith)

pub returns : goal.returns
returns g c =
    let k = g.K.Kind.rules in let o = g.T.Guarded.meaning in let a = c.args.active in
    called_out k o Waiter a (SignalWait a.me.seat c.args.cond c.args.wait_cond Stay) c.resume-active.result _ _
    c.leave-2.result
    (came_back k o Waiter a (SignalWait a.me.seat c.args.cond c.args.wait_cond Stay) _ _ c.signal_wait.result
    c.resume-active.result
    (λ x. (refl, refl, refl)) c.signal_wait.ensures c.resume-active.ensures.entered)
    c.leave-2.ensures
