use Rattle.monk_floor.proofs.PathLaws.{signaller_here}
use Rattle.monk_floor.proofs.floor.Floor.next_signaller.Goals as goal

pub returns : goal.returns
returns g c =
    signaller_here c.self.invariant g.K.Kind.is_kind c.args.self.now c.self.view_is c.args.event c.args.entry_known
    c.args.pick c.requires.call c.requires.release c.requires.mode
    c.rules_of-rules.result c.front_signaller-front.result c.single_choice.result c.rules_of-rules.ensures
    c.front_signaller-front.ensures c.single_choice.ensures
