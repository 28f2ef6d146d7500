use Rattle.monk_floor.proofs.LinkLaws.Taking.{no_front, front_is, front_in_range, taken_none, taken_linked, taken_seen, taken_apart}
use Rattle.monk_floor.proofs.links.Links.pop.Goals as goal

pub returns-then-chain-eq0-clause-front : goal.returns-then-chain-eq0-clause-front
returns-then-chain-eq0-clause-front c =
    no_front c.self.inside.next c.self.inside.chains c.args.queue c.args.self.now c.self.view_is c.if-chain-eq0.true

pub returns-then-chain-eq0-clause-rest : goal.returns-then-chain-eq0-clause-rest
returns-then-chain-eq0-clause-rest c =
    taken_none c.self.inside.next c.self.inside.chains c.args.queue c.args.self.now c.self.view_is c.if-chain-eq0.true

pub bounds-self-inside-front : goal.bounds-self-inside-front
bounds-self-inside-front c =
    front_in_range c.self.inside.next c.self.inside.chains c.args.queue c.self.invariant c.requires c.if-chain-eq0.false

pub invariant_of-self : goal.invariant_of-self
invariant_of-self c =
    taken_linked c.self.inside.next c.self.inside.chains c.args.queue c.self.invariant c.requires c.if-chain-eq0.false

pub returns-clause-front : goal.returns-clause-front
returns-clause-front c =
    front_is c.self.inside.next c.self.inside.chains c.args.queue c.args.self.now c.self.view_is c.if-chain-eq0.false

pub returns-clause-rest : goal.returns-clause-rest
returns-clause-rest c =
    taken_seen c.self.inside.next c.self.inside.chains c.args.queue c.self.invariant c.requires c.args.self.now
    c.self.view_is c.if-chain-eq0.false

pub returns-clause-seat : goal.returns-clause-seat
returns-clause-seat c =
    front_in_range c.self.inside.next c.self.inside.chains c.args.queue c.self.invariant c.requires c.if-chain-eq0.false

pub returns-clause-apart : goal.returns-clause-apart
returns-clause-apart c =
    taken_apart c.self.inside.next c.self.inside.chains c.args.queue c.self.invariant c.requires c.args.self.now
    c.self.view_is c.if-chain-eq0.false
