use Rattle.std.proofs.Common.{ap, subst}
use Rattle.monk_history.specs.declared.event.{Event.TheVariants.Signal, Next.TheVariants.Stay}
use Rattle.monk_world.specs.declared.home.Home.TheVariants as home
use Rattle.monk_hall.proofs.active.Active.plain_signal_quietly.Goals as goal
use Rattle.monk_hall.{specs.Calls.HasPeeked, specs.Calls.peeks_of, proofs.ReleaseLaws.after_peeked}

pub returns : goal.returns
returns g c =
    let look = c.look_for_entry-known in
    after_peeked g.K.Kind.rules g.T.Guarded.meaning
    (λ n. Signal n c.args.cond Stay) c.args.pick home.Inner _ c.args.self look.new.self
    (subst (λ n. HasPeeked n c.args.self look.new.self)
    (ap (λ b. peeks_of b c.args.pick) c.serves-chooses.ensures) look.ensures.peeked)
    c.go_on.result.0 _ c.go_on.result.1
    (c.go_on.ensures look.new.self (λ n. Signal n c.args.cond Stay) c.args.pick look.result
    c.record_plain_signal.ensures.recorded)
