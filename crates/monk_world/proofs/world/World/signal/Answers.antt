use Rattle.std.proofs.{Common.refl, Common.arith, lemmas.Grind.common_steps}
use Rattle.monk_history.specs.declared.event.Next.TheVariants as next
use Rattle.monk_history.specs.declared.event.Event.TheVariants.{Signal}
use Rattle.monk_world.specs.declared.command.Command.TheVariants as command
use Rattle.monk_world.specs.declared.home.Home.TheVariants as home
use Rattle.monk_world.proofs.StateSteps as world
use Rattle.monk_world.proofs.world.World.signal.Goals as goal

pub plain_signal-next-requires-clause-call : goal.plain_signal-next-requires-clause-call
plain_signal-next-requires-clause-call g c κs within = grind (arith, common_steps)

pub invariant_of-self : goal.invariant_of-self
invariant_of-self g c =
    (world.release_done g.K.Kind.rules g.T.Guarded.meaning c.self.inside.words c.self.inside.floor c.args.self.now
    c.self.view_is c.args.seat (command.Signal c.args.cond c.args.pick)
    (Signal c.args.seat c.args.cond next.Stay) c.args.pick home.Inner
    c.requires refl (λ q d. d) c.knows-known.ensures c.plain_signal-next.ensures.choice
    c.plain_signal-next.ensures.grown.grown
    c.floor_in.ensures.answer c.floor_in.ensures.shows).1
    c.self.inside.conds g.K.Kind.is_kind c.self.invariant c.floor_in.ensures.shows.seats

pub returns : goal.returns
returns g c =
    (world.release_done g.K.Kind.rules g.T.Guarded.meaning c.self.inside.words c.self.inside.floor c.args.self.now
    c.self.view_is c.args.seat (command.Signal c.args.cond c.args.pick)
    (Signal c.args.seat c.args.cond next.Stay) c.args.pick home.Inner
    c.requires refl (λ q d. d) c.knows-known.ensures c.plain_signal-next.ensures.choice
    c.plain_signal-next.ensures.grown.grown
    c.floor_in.ensures.answer c.floor_in.ensures.shows).0
