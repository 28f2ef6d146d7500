use Rattle.std.proofs.Common.{sym, ◌∙◌}
use Rattle.monk_world.specs.declared.command.Command.TheVariants as command
use Rattle.monk_world.specs.declared.place.Place.TheVariants as place
use Rattle.monk_world.proofs.StateSteps as world
use Rattle.monk_world.proofs.world.World.drop_ticket.Goals as goal
use Rattle.std.specs.Prelude.{slice_index_or}

pub drop_ticket-requires-clause-drawn : goal.drop_ticket-requires-clause-drawn
drop_ticket-requires-clause-drawn g c =
    world.drawn_here g.K.Kind.rules g.T.Guarded.meaning c.self.inside.words c.self.inside.floor c.args.self.now
    c.self.view_is c.args.seat c.self.inside.conds c.self.invariant

pub invariant_of-self : goal.invariant_of-self
invariant_of-self g c =
    world.kept g.K.Kind.rules g.T.Guarded.meaning c.self.inside.words c.self.inside.floor c.args.self.now c.self.view_is
    c.args.seat command.Drop c.drop_ticket.result c.drop_ticket.new.self c.self.inside.floor c.self.inside.conds
    g.K.Kind.is_kind c.self.invariant c.requires c.drop_ticket.ensures.shows.seats
    (world.drop_goes g.K.Kind.rules g.T.Guarded.meaning c.self.inside.words c.self.inside.floor c.args.self.now
    c.self.view_is c.args.seat c.in-Back.home c.drop_ticket.result c.drop_ticket.new.self
    (world.entry_is (slice_index_or c.self.inside.words.places.items c.args.seat place.Idle) _ c.in-Back.home
    (sym c.place.ensures ∙ c.in-Back.is)
    (world.ready_here g.K.Kind.rules g.T.Guarded.meaning c.self.inside.words c.self.inside.floor c.args.self.now
    c.self.view_is c.args.seat command.Drop c.requires).told) c.drop_ticket.ensures.answer
    c.drop_ticket.ensures.shows)

pub returns : goal.returns
returns g c =
    world.returned g.K.Kind.rules g.T.Guarded.meaning c.self.inside.words c.self.inside.floor c.args.self.now
    c.self.view_is c.args.seat command.Drop c.drop_ticket.result _
    (world.drop_goes g.K.Kind.rules g.T.Guarded.meaning c.self.inside.words c.self.inside.floor c.args.self.now
    c.self.view_is c.args.seat c.in-Back.home c.drop_ticket.result c.drop_ticket.new.self
    (world.entry_is (slice_index_or c.self.inside.words.places.items c.args.seat place.Idle) _ c.in-Back.home
    (sym c.place.ensures ∙ c.in-Back.is)
    (world.ready_here g.K.Kind.rules g.T.Guarded.meaning c.self.inside.words c.self.inside.floor c.args.self.now
    c.self.view_is c.args.seat command.Drop c.requires).told) c.drop_ticket.ensures.answer
    c.drop_ticket.ensures.shows)
