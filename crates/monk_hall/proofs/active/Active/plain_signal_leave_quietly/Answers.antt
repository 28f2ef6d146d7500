use Rattle.std.proofs.Common.{true}
use Rattle.monk_history.specs.declared.event.{Event.TheVariants.SignalLeave, Next.TheVariants.Stay}
use Rattle.monk_world.specs.declared.home.Home.TheVariants as home
use Rattle.monk_hall.proofs.active.Active.plain_signal_leave_quietly.Goals as goal
use Rattle.monk_hall.{specs.Calls.peeks_of, proofs.ReleaseLaws.released_after}

pub returns : goal.returns
returns g c =
    let look = c.look_for_entry-known in
    released_after g.K.Kind.rules g.T.Guarded.meaning (λ n. SignalLeave n c.args.cond Stay) c.args.pick home.Idle
    (peeks_of true c.args.pick) c.args.self look.new.self look.ensures.peeked
    c.go_outside.result.0 _ c.go_outside.result.1
    (c.go_outside.ensures look.new.self (λ n. SignalLeave n c.args.cond Stay) c.args.pick
    look.result c.record_plain_signal_leave.ensures.recorded)
