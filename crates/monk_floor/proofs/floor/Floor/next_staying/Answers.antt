use Rattle.monk_floor.proofs.PathLaws.{staying_here}
use Rattle.monk_floor.proofs.floor.Floor.next_staying.Goals as goal

pub returns : goal.returns
returns g c known wish = staying_here c.self.invariant g.K.Kind.is_kind c.args.self.now c.self.view_is c.args.seat
    c.args.cond known wish c.requires.call c.requires.mode
