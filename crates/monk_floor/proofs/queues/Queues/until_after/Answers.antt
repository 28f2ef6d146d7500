use Rattle.std.proofs.Common.{◌≤◌, ◌+◌, ◌∙◌, ap, sym, subst}
use Rattle.std.specs.Prelude.{slice_get}
use Rattle.monk_floor.specs.Queues.{queue_at, times_in_waits}
use Rattle.monk_floor.proofs.WaitLaws.{times_back, none_after, some_after}
use Rattle.monk_floor.proofs.queues.Queues.until_after.Goals as goal

pub after-requires-clause-there : goal.after-requires-clause-there
after-requires-clause-there c =
    subst (λ n. 1 ≤ n) (times_back c.args.seat c.self.inside.predicates (queue_at c.self.inside.links 2))
    (subst (λ q. 1 ≤ times_in_waits c.args.seat q.untils) (sym c.self.view_is) c.requires)

pub returns-in_err-next : goal.returns-in_err-next
returns-in_err-next c i pred h =
    c.from_residual.ensures
    ∙ (none_after c.self.inside.predicates
    (queue_at c.self.inside.links 2) c.args.seat c.after.result c.after.ensures.next
    c.in_err-next.was i pred (ap (λ q. slice_get q.untils i) c.self.view_is ∙ h)
    ∙ ap (λ q. slice_get q.untils (i + 1)) c.self.view_is)

pub returns : goal.returns
returns c i pred h =
    some_after c.self.inside.predicates (queue_at c.self.inside.links 2) c.args.seat c.in_ok-next.next c.after.result
    c.after.ensures.next c.in_ok-next.was i pred (ap (λ q. slice_get q.untils i) c.self.view_is ∙ h)
    ∙ ap (λ q. slice_get q.untils (i + 1)) c.self.view_is
