use Rattle.monk_floor.proofs.PathLaws.{served_here}
use Rattle.monk_floor.proofs.floor.Floor.next_served.Goals as goal

pub returns : goal.returns
returns g c known wish =
    served_here c.self.invariant g.K.Kind.is_kind c.args.self.now c.self.view_is c.args.seat c.args.cond known wish
    c.requires.call c.requires.mode
    c.front_of.result c.served_choice.result c.front_of.ensures c.served_choice.ensures
