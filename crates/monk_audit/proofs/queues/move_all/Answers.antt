use Rattle.std.proofs.Common.{◌++◌, ◌∙◌, sym, ap}
use Rattle.monk_history.proofs.PublicLaws.Queues.{seats_at-get}
use Rattle.monk_audit.proofs.queues.move_all.Goals as goal
use Rattle.monk_audit.{specs.QueueAt.seats_of, proofs.QueueLaws.emptied_at}

pub returns-clause-served : goal.returns-clause-served
returns-clause-served c =
    c.in_ok-append.ensures.items
    ∙ ap (λ xs. c.args.served.now.items ++ xs) (ap (λ v. v.items) c.index_mut.ensures.value
    ∙ sym (seats_at-get seats_of c.args.queues.now.items c.args.at c.index_mut.result.now c.requires))

pub returns-clause-rest : goal.returns-clause-rest
returns-clause-rest c d =
    emptied_at c.args.queues.now.items c.args.at c.append.new.other d c.requires c.in_ok-append.ensures.other_items
