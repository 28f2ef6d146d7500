use Rattle.monk_floor.proofs.PathLaws.{stay_here, ready_here}
use Rattle.monk_floor.proofs.floor.Floor.next_ready.Goals as goal

pub returns-then-must_stay : goal.returns-then-must_stay
returns-then-must_stay g c =
    stay_here c.self.invariant g.K.Kind.is_kind c.args.self.now c.self.view_is c.args.event c.args.entry_known
    c.args.pick c.requires.call c.requires.release c.must_stay.result c.must_stay.ensures c.if-must_stay.true

pub returns : goal.returns
returns g c =
    ready_here c.self.invariant g.K.Kind.is_kind c.args.self.now c.self.view_is c.args.event c.args.entry_known
    c.args.pick c.requires.call c.requires.release c.requires.mode
    c.must_stay.result c.must_stay.ensures c.if-must_stay.false
    c.rules_of-rules.result c.first_ready-front.result c.single_choice.result c.rules_of-rules.ensures
    c.first_ready-front.ensures
    c.single_choice.ensures
