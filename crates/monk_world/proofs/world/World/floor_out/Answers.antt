use Rattle.std.proofs.Common.{rules, sym, ◌∙◌}
use Rattle.monk_world.specs.declared.command.Command.TheVariants as command
use Rattle.monk_world.proofs.StateSteps as world
use Rattle.monk_world.proofs.world.World.floor_out.Goals as goal

pub record_entry-requires-clause-allowed : goal.record_entry-requires-clause-allowed
record_entry-requires-clause-allowed g c =
    let a = world.out_allowed g.K.Kind.rules g.T.Guarded.meaning c.self.inside.words c.self.inside.floor c.args.self.now
    c.self.view_is c.args.seat c.in-Due.source c.self.inside.conds c.self.invariant c.requires
    (sym c.place.ensures ∙ c.in-Due.is) in
    search (rules, a)

pub invariant_of-self : goal.invariant_of-self
invariant_of-self g c =
    world.kept g.K.Kind.rules g.T.Guarded.meaning c.self.inside.words c.self.inside.floor c.args.self.now c.self.view_is
    c.args.seat command.Out c.floor_out.result c.floor_out.new.self c.record_entry.new.floor c.self.inside.conds
    g.K.Kind.is_kind c.self.invariant c.requires c.floor_out.ensures.shows.seats
    (world.out_goes g.K.Kind.rules g.T.Guarded.meaning c.self.inside.words c.self.inside.floor c.args.self.now
    c.self.view_is c.args.seat c.in-Due.source c.floor_out.result c.floor_out.new.self c.record_entry.new.floor
    (sym c.place.ensures ∙ c.in-Due.is) c.record_entry.ensures c.floor_out.ensures.answer c.floor_out.ensures.shows)

pub returns : goal.returns
returns g c =
    world.returned g.K.Kind.rules g.T.Guarded.meaning c.self.inside.words c.self.inside.floor c.args.self.now
    c.self.view_is c.args.seat command.Out c.floor_out.result _
    (world.out_goes g.K.Kind.rules g.T.Guarded.meaning c.self.inside.words c.self.inside.floor c.args.self.now
    c.self.view_is c.args.seat c.in-Due.source c.floor_out.result c.floor_out.new.self c.record_entry.new.floor
    (sym c.place.ensures ∙ c.in-Due.is) c.record_entry.ensures c.floor_out.ensures.answer c.floor_out.ensures.shows)
