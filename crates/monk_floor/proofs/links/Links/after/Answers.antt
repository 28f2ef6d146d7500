use Rattle.monk_floor.proofs.LinkLaws.Behind.{seat_below, nobody_behind, linked_behind, behind_below}
use Rattle.monk_floor.proofs.links.Links.after.Goals as goal

pub bounds-self-inside-seat : goal.bounds-self-inside-seat
bounds-self-inside-seat c =
    seat_below c.self.inside.next c.self.inside.chains c.self.invariant c.args.queue c.args.seat c.requires.queue
    c.args.self.now c.self.view_is c.requires.there

pub returns-then-self-queue-clause-next : goal.returns-then-self-queue-clause-next
returns-then-self-queue-clause-next c =
    nobody_behind c.self.inside.next c.self.inside.chains c.self.invariant c.args.queue c.args.seat c.requires.queue
    c.args.self.now c.self.view_is c.requires.there c.if-self-queue.true

pub returns-else-self-queue-clause-next : goal.returns-else-self-queue-clause-next
returns-else-self-queue-clause-next c =
    linked_behind c.self.inside.next c.self.inside.chains c.self.invariant c.args.queue c.args.seat c.requires.queue
    c.args.self.now c.self.view_is c.requires.there c.if-self-queue.false

pub returns-else-self-queue-clause-seat : goal.returns-else-self-queue-clause-seat
returns-else-self-queue-clause-seat c =
    behind_below c.self.inside.next c.self.inside.chains c.self.invariant c.args.queue c.args.seat c.requires.queue
    c.args.self.now c.self.view_is c.requires.there c.if-self-queue.false
