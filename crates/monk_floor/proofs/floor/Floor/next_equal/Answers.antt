use Rattle.monk_floor.proofs.PathLaws.{stay_here, equal_here}
use Rattle.monk_floor.proofs.floor.Floor.next_equal.Goals as goal

pub returns-then-must_stay : goal.returns-then-must_stay
returns-then-must_stay g c =
    stay_here c.self.invariant g.K.Kind.is_kind c.args.self.now c.self.view_is c.args.event c.args.entry_known
    c.args.pick c.requires.call c.requires.release c.must_stay.result c.must_stay.ensures c.if-must_stay.true

pub returns : goal.returns
returns g c =
    equal_here c.self.invariant g.K.Kind.is_kind c.args.self.now c.self.view_is c.args.event c.args.entry_known
    c.args.pick c.requires.call c.requires.release c.requires.mode
    c.must_stay.result c.must_stay.ensures c.if-must_stay.false
    c.rules_of-rules.result c.front_waiter-waiter.result c.front_signaller-signaller.result c.seat.result
    c.equal_choice.result
    c.rules_of-rules.ensures c.front_waiter-waiter.ensures c.front_signaller-signaller.ensures c.seat.ensures
    c.equal_choice.ensures
