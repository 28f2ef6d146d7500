use Rattle.monk_world.specs.declared.command.Command.TheVariants as command
use Rattle.monk_world.proofs.StateSteps as world
use Rattle.monk_world.proofs.world.World.arrive.Goals as goal

pub arrive-requires-clause-drawn : goal.arrive-requires-clause-drawn
arrive-requires-clause-drawn g c =
    world.drawn_here g.K.Kind.rules g.T.Guarded.meaning c.self.inside.words c.self.inside.floor c.args.self.now
    c.self.view_is c.args.seat c.self.inside.conds c.self.invariant

pub invariant_of-self : goal.invariant_of-self
invariant_of-self g c =
    world.kept g.K.Kind.rules g.T.Guarded.meaning c.self.inside.words c.self.inside.floor c.args.self.now c.self.view_is
    c.args.seat command.Arrive c.arrive.result c.arrive.new.self c.self.inside.floor c.self.inside.conds
    g.K.Kind.is_kind c.self.invariant c.requires c.arrive.ensures.shows.seats
    (world.arrive_goes g.K.Kind.rules g.T.Guarded.meaning c.self.inside.words c.self.inside.floor c.args.self.now
    c.self.view_is c.args.seat c.arrive.result c.arrive.new.self c.requires c.arrive.ensures.answer
    c.arrive.ensures.shows)

pub returns : goal.returns
returns g c =
    world.returned g.K.Kind.rules g.T.Guarded.meaning c.self.inside.words c.self.inside.floor c.args.self.now
    c.self.view_is c.args.seat command.Arrive c.arrive.result _
    (world.arrive_goes g.K.Kind.rules g.T.Guarded.meaning c.self.inside.words c.self.inside.floor c.args.self.now
    c.self.view_is c.args.seat c.arrive.result c.arrive.new.self c.requires c.arrive.ensures.answer
    c.arrive.ensures.shows)
