use Rattle.std.proofs.Common.{◌∙◌, List, ap}
use Rattle.std.specs.List.{position}
use Rattle.monk_audit.specs.Replay.{has}
use Rattle.monk_tell.proofs.queues.Conditions.of_seat.Goals as goal
use Rattle.monk_tell.{specs.declared.lists.SeatList.SeatList, proofs.LineLaws.waits_of_lists}

pub returns : goal.returns
returns c =
    c.first_with.ensures
    ∙ ap (λ (xs : List SeatList). position (λ (q : SeatList). has c.args.seat q.0.items) xs) c.deref.ensures.value
    ∙ waits_of_lists c.args.self.now c.args.seat
