use Rattle.std.proofs.Common.{arith, ◌<◌, ◌+◌, length, refl}
use Rattle.monk_history.specs.declared.event.{Event.TheVariants.Signal, Next.TheVariants.Stay}
use Rattle.monk_samples.proofs.styles.explicit.finish.Goals as goal
use Rattle.monk_samples.proofs.StyleLaws.{went_on, given_up, called_out}

pub returns-then-left-lt3 : goal.returns-then-left-lt3
returns-then-left-lt3 g c =
    let has = c.left.ensures.left in let few = c.if-left-lt3.true in
    let short : c.args.active.me.setting.budget < length c.args.active.me.mine + 3 = omega arith in (
      c.requires.mode,
      given_up g.K.Kind.rules g.T.Guarded.meaning c.args.active _ _ c.leave.result 3 c.leave.ensures short
          (omega arith) (omega arith),
    )

pub returns : goal.returns
returns g c =
    let k = g.K.Kind.rules in let o = g.T.Guarded.meaning in
    called_out k o c.args.wish c.args.active
    (Signal c.args.active.me.seat c.args.cond Stay) c.go_on-active.result _ _ c.leave-2.result
    (went_on k o c.args.wish c.plain_signal.result c.args.active (Signal c.args.active.me.seat c.args.cond Stay) _ _
    c.go_on-active.result (λ x. (refl, refl, refl)) c.plain_signal.ensures c.go_on-active.ensures)
    c.leave-2.ensures
