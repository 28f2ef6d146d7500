use Rattle.std.proofs.Common.{◌∙◌, ap, drop, arith}
use Rattle.monk_floor.specs.Queues.{queue_at}
use Rattle.monk_floor.proofs.ShownLaws.{others_popped}
use Rattle.monk_floor.proofs.queues.Queues.settle.Goals.{then-takes_waiter, else-takes_waiter}
use Rattle.monk_floor.proofs.queues.Queues.settle.Goals as goal
use Rattle.std.proofs.lemmas.Grind.{common_steps}

pub returns-else-takes_front-clause-conditions : goal.returns-else-takes_front-clause-conditions
returns-else-takes_front-clause-conditions c d =
    elim c.if-takes_waiter.branch [
      | then-takes_waiter w ↦ ap (λ q. queue_at (drop 3 q.links) d) w.self-inside-is
          ∙ (others_popped 0 c.self.inside.links w.pop.new.self (omega arith) w.pop.ensures.rest d
          ∙ ap (λ q. queue_at q.conditions d) c.self.view_is)
      | else-takes_waiter w ↦ grind (arith, common_steps)
    ]

pub returns-then-takes_front-clause-conditions : goal.returns-then-takes_front-clause-conditions
returns-then-takes_front-clause-conditions c d =
    others_popped 1 c.if-takes_waiter.self-inside.links c.pop-then-takes_front.new.self (omega arith)
    c.pop-then-takes_front.ensures.rest d
    ∙ elim c.if-takes_waiter.branch [
      | then-takes_waiter w ↦ grind (arith, common_steps, others_popped)
      | else-takes_waiter w ↦ grind (arith, common_steps)
    ]
