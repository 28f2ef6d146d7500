use Rattle.std.proofs.Common.{true}
use Rattle.monk_history.specs.declared.event.{Event.TheVariants.SignalWait, Next.TheVariants.Stay}
use Rattle.monk_world.specs.declared.home.Home.TheVariants as home
use Rattle.monk_hall.proofs.active.Active.signal_wait_quietly.Goals as goal
use Rattle.monk_hall.{specs.Calls.peeks_of, proofs.ReleaseLaws.released_after}

pub returns : goal.returns
returns g c =
    let look = c.look_for_entry-known in
    released_after g.K.Kind.rules g.T.Guarded.meaning
    (λ n. SignalWait n c.args.cond c.args.wait_cond Stay) c.args.pick home.Inner
    (peeks_of true c.args.pick) c.args.self look.new.self look.ensures.peeked
    c.go_inside.result.0 _ c.go_inside.result.1
    (c.go_inside.ensures look.new.self (λ n. SignalWait n c.args.cond c.args.wait_cond Stay) c.args.pick look.result
    c.record_signal_wait.ensures.recorded)
