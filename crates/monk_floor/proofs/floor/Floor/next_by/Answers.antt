use Rattle.monk_floor.proofs.floor.Floor.next_by.Goals as goal
use Rattle.monk_floor.proofs.{ChoiceLaws.kept_next, PathLaws.stay_here, PathLaws.chosen_here}

pub returns-then-must_stay : goal.returns-then-must_stay
returns-then-must_stay g c =
    stay_here c.self.invariant g.K.Kind.is_kind c.args.self.now c.self.view_is c.args.event c.args.entry_known
    c.args.pick c.requires.call c.requires.release c.must_stay.result c.must_stay.ensures c.if-must_stay.true

pub returns : goal.returns
returns g c =
    chosen_here c.self.invariant g.K.Kind.is_kind c.args.self.now c.self.view_is c.args.event c.args.entry_known
    c.args.pick c.choose.result c.requires.call c.requires.release
    (kept_next c.self.invariant c.args.event c.args.entry_known c.args.pick c.must_stay.result
    c.must_stay.ensures c.if-must_stay.false
    _ _ _ c.choose.result c.rules_of.result c.seat.result
    c.front_waiter.ensures c.front_signaller.ensures
    c.first_ready.ensures
    c.rules_of.ensures c.seat.ensures c.choose.ensures)
