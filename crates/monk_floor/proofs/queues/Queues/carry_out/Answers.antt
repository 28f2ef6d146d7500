use Rattle.std.proofs.Common.{not}
use Rattle.monk_history.specs.Meaning.{Events.seat_of, Untils.chooses}
use Rattle.monk_floor.proofs.queues.Queues.carry_out.Goals as goal
use Rattle.monk_floor.proofs.QueueLaws.{still_apart}

pub join-requires-clause-apart : goal.join-requires-clause-apart
join-requires-clause-apart c =
    still_apart (seat_of c.args.event) c.args.self.now c.drop_chosen.new.self (λ w. not (chooses c.args.event w))
    c.drop_chosen.ensures.conditions c.drop_chosen.ensures.waiters c.drop_chosen.ensures.signallers
    c.drop_chosen.ensures.untils
    c.requires.apart
