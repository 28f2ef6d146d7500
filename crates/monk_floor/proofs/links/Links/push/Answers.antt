use Rattle.std.proofs.Common.{ap, subst, sym, ◌∙◌, map, arith}
use Rattle.std.specs.Prelude.{slice_set}
use Rattle.monk_floor.proofs.links.Links.push.Goals as goal
use Rattle.monk_floor.proofs.LinkLaws.{Joining.first_linked, Joining.first_seen, Joining.behind_linked}
use Rattle.monk_floor.proofs.LinkLaws.{Joining.behind_seen, Joining.last_is_seat, Joining.seen_none, Chains.few}
use Rattle.monk_floor.specs.{Links.seats_of, Links.IsLinked, Queues.queue_at}

pub bounds-self-inside-chain : goal.bounds-self-inside-chain
bounds-self-inside-chain c =
    last_is_seat c.self.invariant c.args.queue c.args.seat c.requires.queue c.if-chain-eq0.false

pub overflow_add-self : goal.overflow_add-self
overflow_add-self c = let short = few c.self.invariant c.args.queue c.requires.queue in omega (arith, short)

pub invariant_of-self : goal.invariant_of-self
invariant_of-self c =
    subst (λ x. IsLinked c.self.inside.next (slice_set c.self.inside.chains c.args.queue x)) (sym c.of.ensures)
    (first_linked c.self.invariant c.args.queue c.args.seat c.requires.queue c.if-chain-eq0.true c.requires.seat
    (seen_none c.self.inside.next c.self.inside.chains c.args.self.now c.self.view_is c.args.seat c.requires.apart))

pub invariant_of-self-else-chain-eq0 : goal.invariant_of-self-else-chain-eq0
invariant_of-self-else-chain-eq0 c =
    behind_linked c.self.invariant c.args.queue c.args.seat c.requires.queue c.if-chain-eq0.false c.self.told
    c.requires.seat
    (seen_none c.self.inside.next c.self.inside.chains c.args.self.now c.self.view_is c.args.seat c.requires.apart)

pub returns-then-chain-eq0 : goal.returns-then-chain-eq0
returns-then-chain-eq0 c d =
    ap (λ x. queue_at (map (seats_of c.self.inside.next) (slice_set c.self.inside.chains c.args.queue x)) d)
    c.of.ensures
    ∙ first_seen c.self.invariant c.args.queue c.args.seat c.requires.queue c.args.self.now c.self.view_is
    c.if-chain-eq0.true d

pub returns-else-chain-eq0 : goal.returns-else-chain-eq0
returns-else-chain-eq0 c =
    behind_seen c.self.invariant c.args.queue c.args.seat c.requires.queue c.args.self.now c.self.view_is
    c.if-chain-eq0.false
    c.self.told
