use Rattle.monk_floor.proofs.links.Links.pass_all.Goals as goal
use Rattle.monk_floor.proofs.LinkLaws.{Chains.few, Joining.last_is_seat}
use Rattle.monk_floor.proofs.LinkLaws.Passing.{nobody_passed, alone_linked, alone_seen, both_linked, both_seen}
use Rattle.std.proofs.Common.{arith}

pub returns-then-passed-eq0 : goal.returns-then-passed-eq0
returns-then-passed-eq0 c =
    nobody_passed c.self.invariant c.args.from c.args.to c.requires.from c.requires.to c.requires.other
    c.args.self.now c.self.view_is c.if-passed-eq0.true

pub invariant_of-self : goal.invariant_of-self
invariant_of-self c =
    alone_linked c.self.invariant c.args.from c.args.to c.requires.from c.requires.to c.requires.other
    c.if-chain-eq0.true

pub bounds-self-inside-chain : goal.bounds-self-inside-chain
bounds-self-inside-chain c = last_is_seat c.self.invariant c.args.to c.args.from c.requires.to c.if-chain-eq0.false

pub overflow_add-self : goal.overflow_add-self
overflow_add-self c =
    let one = few c.self.invariant c.args.from c.requires.from in
    let other = few c.self.invariant c.args.to c.requires.to in
    omega (arith, one, other)

pub returns-then-chain-eq0 : goal.returns-then-chain-eq0
returns-then-chain-eq0 c =
    alone_seen c.self.invariant c.args.from c.args.to c.requires.from c.requires.to c.requires.other
    c.args.self.now c.self.view_is c.if-chain-eq0.true

pub invariant_of-self-2 : goal.invariant_of-self-2
invariant_of-self-2 c =
    both_linked c.self.invariant c.args.from c.args.to c.requires.from c.requires.to c.requires.other
    c.if-chain-eq0.false c.self.told c.if-passed-eq0.false

pub returns : goal.returns
returns c =
    both_seen c.self.invariant c.args.from c.args.to c.requires.from c.requires.to c.requires.other
    c.args.self.now c.self.view_is c.if-chain-eq0.false c.self.told
