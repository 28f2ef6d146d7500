use Rattle.std.proofs.Common.{◌∙◌, sym, ap, arith}
use Rattle.std.specs.Prelude.{slice_get}
use Rattle.monk_history.proofs.PublicLaws.Queues.{seats_at-get}
use Rattle.monk_audit.specs.QueueAt.{seats_of}
use Rattle.monk_audit.proofs.replay.Replay.first_at.Goals as goal

pub returns : goal.returns
returns c =
    c.copied.ensures
    ∙ (c.first.ensures.value
    ∙ ap (λ xs. slice_get xs 0)
    (c.deref.ensures.value
    ∙ (ap (λ v. v.items) c.index.ensures
    ∙ sym (seats_at-get seats_of c.args.self.now.conditions.items c.args.cond c.index.result.now
    (omega (arith, c.if-cond-len.false, c.len.ensures, c.args.self.now.conditions.ok.0))))))
