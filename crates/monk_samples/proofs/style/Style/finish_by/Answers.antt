use Rattle.std.proofs.Common.{◌≡◌, List, refl, sym, subst}
use Rattle.monk_kinds.specs.declared.mode.Mode.TheVariants.{Automatic, ImmediateReturn}
use Rattle.monk_history.specs.declared.event.{Event.Event, Event.TheVariants.SignalLeave, Next.TheVariants.Stay}
use Rattle.monk_samples.proofs.style.Style.finish_by.Goals as goal
use Rattle.monk_samples.proofs.StyleLaws.{gone, left, out_at_once, out_automatic}
use Rattle.monk_samples.specs.Styles.{HasGoneBy}

pub returns-in-Automatic : goal.returns-in-Automatic
returns-in-Automatic g c =
    let k = g.Self.Kind.rules in let o = g.T.Guarded.meaning in let a = c.args.active in
    let automatic : k.mode ≡ Automatic = cc in
    subst (λ (calls : List Event). HasGoneBy k o c.args.wish a calls c.leave.result)
    (sym (out_automatic k a.me.seat c.args.cond automatic))
    (left k o c.args.wish a _ _ c.leave.result c.leave.ensures)

pub returns-in-ImmediateReturn : goal.returns-in-ImmediateReturn
returns-in-ImmediateReturn g c =
    let k = g.Self.Kind.rules in let o = g.T.Guarded.meaning in let a = c.args.active in
    let at_once : k.mode ≡ ImmediateReturn = cc in
    subst (λ (calls : List Event). HasGoneBy k o c.args.wish a calls c.plain_signal_leave.result)
    (sym (out_at_once k a.me.seat c.args.cond at_once))
    (gone k o c.args.wish a (SignalLeave a.me.seat c.args.cond Stay) _ _ c.plain_signal_leave.result
    (λ x. (refl, refl, refl))
    c.plain_signal_leave.ensures)
