use Rattle.std.proofs.Common.{arith, ◌<◌, ◌+◌, length}
use Rattle.monk_kinds.specs.declared.mode.Pick.TheVariants.{Waiter}
use Rattle.monk_history.specs.declared.event.Event.TheVariants.{SignalAll}
use Rattle.monk_samples.proofs.styles.waking.wake_all_and_leave.Goals as goal
use Rattle.monk_samples.proofs.{StyleLaws.called_out, StyleLaws.given_up, TrailLaws.woke}

pub returns-then-left-lt2 : goal.returns-then-left-lt2
returns-then-left-lt2 g c =
    let has = c.left.ensures.left in let few = c.if-left-lt2.true in
    let short : c.args.active.me.setting.budget < length c.args.active.me.mine + 2 = omega arith in
    given_up g.K.Kind.rules g.T.Guarded.meaning c.args.active _ _ c.leave.result 2 c.leave.ensures short
    (omega arith) (omega arith)

pub returns : goal.returns
returns g c =
    let k = g.K.Kind.rules in let o = g.T.Guarded.meaning in let a = c.args.active in
    called_out k o Waiter a (SignalAll a.me.seat c.args.cond) c.signal_all.new.self _ _ c.leave-2.result
    (woke k o Waiter a a.me.seat c.args.cond c.signal_all.new.self c.signal_all.ensures.done)
    c.leave-2.ensures
