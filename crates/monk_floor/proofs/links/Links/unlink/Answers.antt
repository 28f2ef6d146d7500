use Rattle.monk_floor.proofs.LinkLaws.Removing.{seat_in_range, before_in_range, not_empty, unlinked_linked, unlinked_here, unlinked_others}
use Rattle.monk_floor.proofs.links.Links.unlink.Goals as goal

pub bounds-self-inside-seat : goal.bounds-self-inside-seat
bounds-self-inside-seat c =
    seat_in_range c.self.inside.next c.self.inside.chains c.self.invariant c.args.queue c.args.seat c.args.before
    c.requires.queue c.args.self.now c.self.view_is c.requires.before

pub bounds-self-inside-before : goal.bounds-self-inside-before
bounds-self-inside-before c =
    before_in_range c.self.inside.next c.self.inside.chains c.self.invariant c.args.queue c.args.seat c.args.before
    c.requires.queue c.args.self.now c.self.view_is c.requires.before

pub overflow_sub-self : goal.overflow_sub-self
overflow_sub-self c =
    not_empty c.self.inside.next c.self.inside.chains c.self.invariant c.args.queue c.args.seat c.args.before
    c.requires.queue c.args.self.now c.self.view_is c.requires.before

pub invariant_of-self : goal.invariant_of-self
invariant_of-self c =
    unlinked_linked c.self.inside.next c.self.inside.chains c.self.invariant c.args.queue c.args.seat c.args.before
    c.requires.queue c.args.self.now c.self.view_is c.requires.before c.self.told c.last_without.result
    c.last_without.ensures

pub returns-clause-removed : goal.returns-clause-removed
returns-clause-removed c =
    unlinked_here c.self.inside.next c.self.inside.chains c.self.invariant c.args.queue c.args.seat c.args.before
    c.requires.queue c.args.self.now c.self.view_is c.requires.before c.self.told c.last_without.result

pub returns-clause-others : goal.returns-clause-others
returns-clause-others c =
    unlinked_others c.self.inside.next c.self.inside.chains c.self.invariant c.args.queue c.args.seat c.args.before
    c.requires.queue c.args.self.now c.self.view_is c.requires.before c.self.told c.last_without.result
