use Rattle.std.proofs.Common.{◌∙◌, sym, ap, arith}
use Rattle.std.proofs.lemmas.Result.{IfOk-weaker}
use Rattle.monk_history.proofs.PublicLaws.Queues.{seats_at-get}
use Rattle.monk_audit.specs.QueueAt.{seats_of}
use Rattle.monk_audit.proofs.replay.Replay.condition.Goals as goal

pub returns : goal.returns
returns c =
    IfOk-weaker c.to_vec.result _ _
    (λ v same state. same (λ x y is. is)
    ∙ (c.deref.ensures.value
    ∙ (ap (λ v. v.items) c.index.ensures
    ∙ sym (seats_at-get seats_of c.args.self.now.conditions.items c.args.cond c.index.result.now
    (omega (arith, c.if-cond-len.false, c.len.ensures, c.args.self.now.conditions.ok.0))))))
    c.to_vec.ensures.items_if_clones_equal
