use Rattle.std.proofs.Common.{sym, ◌∙◌, ap, Some, nat_eq}
use Rattle.std.specs.Option.{option_eq}
use Rattle.monk_floor.specs.Queues.{queue_at}
use Rattle.monk_floor.proofs.LinkLaws.Removing.{removed_front, others_stay_here, not_there}
use Rattle.monk_floor.proofs.links.Links.remove.Goals as goal

pub returns-then-eq-clause-removed : goal.returns-then-eq-clause-removed
returns-then-eq-clause-removed c =
    removed_front c.args.queue c.args.seat c.args.self.now c.pop.new.self c.pop.result c.requires c.pop.ensures.front
    (c.if-eq.ensures
    ∙ ap (λ r. option_eq nat_eq r (Some c.args.seat)) (c.front.ensures.front ∙ sym c.pop.ensures.front))
    c.pop.ensures.rest c.pop.ensures.apart

pub returns-then-eq-clause-others : goal.returns-then-eq-clause-others
returns-then-eq-clause-others c = others_stay_here c.args.queue c.args.self.now c.pop.new.self c.pop.ensures.rest

pub returns-in_default-clause-removed : goal.returns-in_default-clause-removed
returns-in_default-clause-removed c =
    not_there c.args.seat (queue_at c.args.self.now c.args.queue) c.front.result c.front.ensures.front
    c.if-eq.ensures (sym c.before-else-eq.ensures ∙ c.in_default.is)
