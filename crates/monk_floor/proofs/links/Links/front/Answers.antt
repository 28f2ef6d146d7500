use Rattle.monk_floor.proofs.LinkLaws.Taking.{no_front, front_is, front_in_range}
use Rattle.monk_floor.proofs.links.Links.front.Goals as goal

pub returns-then-chain-eq0-clause-front : goal.returns-then-chain-eq0-clause-front
returns-then-chain-eq0-clause-front c =
    no_front c.self.inside.next c.self.inside.chains c.args.queue c.args.self.now c.self.view_is c.if-chain-eq0.true

pub returns-else-chain-eq0-clause-front : goal.returns-else-chain-eq0-clause-front
returns-else-chain-eq0-clause-front c =
    front_is c.self.inside.next c.self.inside.chains c.args.queue c.args.self.now c.self.view_is c.if-chain-eq0.false

pub returns-else-chain-eq0-clause-seat : goal.returns-else-chain-eq0-clause-seat
returns-else-chain-eq0-clause-seat c =
    front_in_range c.self.inside.next c.self.inside.chains c.args.queue c.self.invariant c.requires c.if-chain-eq0.false
