use Rattle.monk_floor.proofs.LinkLaws.Searching.{left_first, before_is_seat, left_next, found, not_found}
use Rattle.monk_floor.proofs.links.Links.before.Goals as goal

pub loop-init : goal.loop-init
loop-init c = left_first c.self.inside.next c.self.inside.chains c.args.queue c.args.seat

pub bounds-self-inside-before : goal.bounds-self-inside-before
bounds-self-inside-before c =
    before_is_seat c.self.inside.next c.self.inside.chains c.args.queue c.args.seat c.self.invariant c.requires
    c.loop.counter c.loop.before c.loop.invariant c.loop-test.true

pub returns-then-here-seat : goal.returns-then-here-seat
returns-then-here-seat c =
    found c.self.inside.next c.self.inside.chains c.args.queue c.args.seat c.args.self.now c.self.view_is
    c.loop.counter c.loop.before c.loop.invariant c.loop-test.true c.if-here-seat.true

pub loop-preserved : goal.loop-preserved
loop-preserved c =
    left_next c.self.inside.next c.self.inside.chains c.args.queue c.args.seat c.loop.counter c.loop.before
    c.loop.invariant c.loop-test.true c.if-here-seat.false

pub returns : goal.returns
returns c =
    not_found c.self.inside.next c.self.inside.chains c.args.queue c.args.seat c.args.self.now c.self.view_is
    c.loop.counter c.loop.before c.loop.invariant c.loop-test.false
