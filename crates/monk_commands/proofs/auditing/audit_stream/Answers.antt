use Rattle.std.proofs.lemmas.Result.{IfOk-weaker}
use Rattle.monk_commands.proofs.Exact.{one_exactly, status_is, zero_exactly}
use Rattle.monk_commands.proofs.auditing.audit_stream.Goals as goal

pub returns-clause-legal : goal.returns-clause-legal
returns-clause-legal g c =
    IfOk-weaker c.put.result _ _ (λ status h.
    zero_exactly _ status (status_is _ c.in_ok-found.found c.in_ok-answer.answer.status status h.0
    c.in_ok-found.ensures.verdict (λ input gives. (c.in_ok-answer.ensures input gives).0)))
    c.put.ensures.line

pub returns-clause-forbidden : goal.returns-clause-forbidden
returns-clause-forbidden g c =
    IfOk-weaker c.put.result _ _ (λ status h.
    one_exactly _ status (status_is _ c.in_ok-found.found c.in_ok-answer.answer.status status h.0
    c.in_ok-found.ensures.verdict (λ input gives. (c.in_ok-answer.ensures input gives).0)))
    c.put.ensures.line
