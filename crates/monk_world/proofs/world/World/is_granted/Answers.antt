use Rattle.std.proofs.Common.{sym, ◌∙◌}
use Rattle.monk_world.proofs.StateSteps as world
use Rattle.monk_world.proofs.world.World.is_granted.Goals as goal

pub is_ticket_granted-requires-clause-ticket : goal.is_ticket_granted-requires-clause-ticket
is_ticket_granted-requires-clause-ticket g c = world.ticket_here g.K.Kind.rules g.T.Guarded.meaning c.self.inside.words
    c.self.inside.floor c.args.self.now c.self.view_is c.args.seat c.in-Ticket.ticket c.self.inside.conds
    c.self.invariant (sym c.place.ensures ∙ c.in-Ticket.is)
