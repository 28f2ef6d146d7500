use Rattle.std.proofs.Common.{sym, ◌∙◌}
use Rattle.monk_world.specs.declared.command.Command.TheVariants as command
use Rattle.monk_world.proofs.StateSteps as world
use Rattle.monk_world.proofs.world.World.look.Goals as goal

pub ticket_look-requires-clause-ticket : goal.ticket_look-requires-clause-ticket
ticket_look-requires-clause-ticket g c = world.ticket_here g.K.Kind.rules g.T.Guarded.meaning c.self.inside.words
    c.self.inside.floor c.args.self.now c.self.view_is c.args.seat c.in-Ticket.ticket c.self.inside.conds
    c.self.invariant (sym c.place.ensures ∙ c.in-Ticket.is)

pub invariant_of-self : goal.invariant_of-self
invariant_of-self g c =
    world.kept g.K.Kind.rules g.T.Guarded.meaning c.self.inside.words c.self.inside.floor c.args.self.now c.self.view_is
    c.args.seat command.Look c.ticket_look.result c.ticket_look.new.self c.self.inside.floor c.self.inside.conds
    g.K.Kind.is_kind c.self.invariant c.requires c.ticket_look.ensures.shows.seats
    (world.ticket_look_goes g.K.Kind.rules g.T.Guarded.meaning c.self.inside.words c.self.inside.floor c.args.self.now
    c.self.view_is c.args.seat c.in-Ticket.ticket c.ticket_look.result c.ticket_look.new.self c.self.inside.conds
    c.self.invariant (sym c.place.ensures ∙ c.in-Ticket.is) c.ticket_look.ensures.answer
    c.ticket_look.ensures.shows)

pub returns-in-Ticket : goal.returns-in-Ticket
returns-in-Ticket g c =
    world.returned g.K.Kind.rules g.T.Guarded.meaning c.self.inside.words c.self.inside.floor c.args.self.now
    c.self.view_is c.args.seat command.Look c.ticket_look.result _
    (world.ticket_look_goes g.K.Kind.rules g.T.Guarded.meaning c.self.inside.words c.self.inside.floor c.args.self.now
    c.self.view_is c.args.seat c.in-Ticket.ticket c.ticket_look.result c.ticket_look.new.self c.self.inside.conds
    c.self.invariant (sym c.place.ensures ∙ c.in-Ticket.is) c.ticket_look.ensures.answer
    c.ticket_look.ensures.shows)

pub invariant_of-self-in-Inner : goal.invariant_of-self-in-Inner
invariant_of-self-in-Inner g c =
    world.kept g.K.Kind.rules g.T.Guarded.meaning c.self.inside.words c.self.inside.floor c.args.self.now c.self.view_is
    c.args.seat command.Look c.seat_look.result c.seat_look.new.self c.self.inside.floor c.self.inside.conds
    g.K.Kind.is_kind c.self.invariant c.requires c.seat_look.ensures.shows.seats
    (world.seat_look_goes g.K.Kind.rules g.T.Guarded.meaning c.self.inside.words c.self.inside.floor c.args.self.now
    c.self.view_is c.args.seat c.seat_look.result c.seat_look.new.self (sym c.place.ensures ∙ c.in-Inner.is)
    c.seat_look.ensures.answer c.seat_look.ensures.shows)

pub returns-in-Inner : goal.returns-in-Inner
returns-in-Inner g c =
    world.returned g.K.Kind.rules g.T.Guarded.meaning c.self.inside.words c.self.inside.floor c.args.self.now
    c.self.view_is c.args.seat command.Look c.seat_look.result _
    (world.seat_look_goes g.K.Kind.rules g.T.Guarded.meaning c.self.inside.words c.self.inside.floor c.args.self.now
    c.self.view_is c.args.seat c.seat_look.result c.seat_look.new.self (sym c.place.ensures ∙ c.in-Inner.is)
    c.seat_look.ensures.answer c.seat_look.ensures.shows)
