use Rattle.std.proofs.Common.{ap, ◌∙◌}
use Rattle.monk_hall.proofs.parked.Parked.ticket_look.Goals as goal
use Rattle.monk_hall.{specs.Tokens.Token, proofs.EntrySteps.ticket_look_rests}

pub invariant_of-result : goal.invariant_of-result
invariant_of-result g c =
    let look = c.ticket_look-found in
    let x = ticket_look_rests c.self.invariant.0 c.args.ticket look.result
    (ap (λ (p : Token). p.me.place) c.self.view_is ∙ c.requires.waits) look.new.seat.table_id look.new.seat.me
    c.place_after_ticket_look.result look.ensures.table.0 look.ensures.step c.place_after_ticket_look.ensures in
    (x.0, c.self.invariant.1, x.1, x.2)
