use Rattle.monk_audit.proofs.TooBigLaws.{end_too_big}
use Rattle.monk_audit.proofs.text_audit.TextAudit.end.Goals as goal

pub returns-in-None-clause-too_big : goal.returns-in-None-clause-too_big
returns-in-None-clause-too_big c =
    end_too_big c.args.self.fault c.args.self.stage c.args.self.held.items c.deref.result.now c.end.result c.in-None.is
    c.deref.ensures.value c.end.ensures.none
