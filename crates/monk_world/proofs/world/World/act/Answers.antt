use Rattle.std.proofs.{Common.refl, Common.arith, lemmas.Grind.common_steps}
use Rattle.monk_world.specs.declared.command.Command.TheVariants as command
use Rattle.monk_world.proofs.StateSteps as world
use Rattle.monk_world.proofs.world.World.act.Goals as goal

pub act-requires-clause-call : goal.act-requires-clause-call
act-requires-clause-call g c κs within = grind (arith, common_steps)

pub invariant_of-self : goal.invariant_of-self
invariant_of-self g c =
    world.kept g.K.Kind.rules g.T.Guarded.meaning c.self.inside.words c.self.inside.floor c.args.self.now c.self.view_is
    c.args.seat (command.Act c.args.op) _ c.self.inside.words c.act.new.self c.self.inside.conds g.K.Kind.is_kind
    c.self.invariant c.requires refl
    (world.act_goes g.K.Kind.rules g.T.Guarded.meaning c.self.inside.words c.self.inside.floor c.args.self.now
    c.self.view_is c.args.seat c.args.op c.act.result _ c.act.new.self c.requires c.act.ensures.grown refl)
