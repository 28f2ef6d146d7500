use Rattle.monk_hall.proofs.EntrySteps.{call_look_rests}
use Rattle.monk_hall.proofs.parked.Parked.seat_look.Goals as goal

pub invariant_of-result : goal.invariant_of-result
invariant_of-result g c =
    let look = c.seat_look-found in
    let x = call_look_rests c.self.invariant.0 look.result look.new.seat.table_id look.new.seat.me
    c.place_after_seat_look.result c.is_called.result c.count_after_seat_look.result look.ensures.table.0
    look.ensures.step c.is_called.ensures c.place_after_seat_look.ensures c.count_after_seat_look.ensures in
    (x.0, c.self.invariant.1, x.1, x.2)
