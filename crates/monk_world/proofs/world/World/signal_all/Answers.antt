use Rattle.std.proofs.{Common.refl, Common.arith, lemmas.Grind.common_steps}
use Rattle.monk_world.specs.declared.command.Command.TheVariants as command
use Rattle.monk_world.proofs.StateSteps as world
use Rattle.monk_world.proofs.world.World.signal_all.Goals as goal

pub plain_signal_all-requires-clause-call : goal.plain_signal_all-requires-clause-call
plain_signal_all-requires-clause-call g c κs within = grind (arith, common_steps)

pub invariant_of-self : goal.invariant_of-self
invariant_of-self g c =
    world.kept g.K.Kind.rules g.T.Guarded.meaning c.self.inside.words c.self.inside.floor c.args.self.now c.self.view_is
    c.args.seat (command.SignalAll c.args.cond) _ c.self.inside.words c.plain_signal_all.new.self
    c.self.inside.conds g.K.Kind.is_kind
    c.self.invariant c.requires refl
    (world.signal_all_goes g.K.Kind.rules g.T.Guarded.meaning c.self.inside.words c.self.inside.floor c.args.self.now
    c.self.view_is c.args.seat c.args.cond c.plain_signal_all.result _ c.plain_signal_all.new.self c.requires
    c.plain_signal_all.ensures.grown.grown c.plain_signal_all.ensures.served refl)
