use Rattle.std.proofs.Common.{◌∙◌, Result, subst}
use Rattle.monk_history.specs.{Text.Lines.Gives, declared.text.fault.ReadFault.ReadFault}
use Rattle.monk_audit.proofs.reading.audit_text.Goals as goal
use Rattle.monk_audit.proofs.PieceLaws.{owed_opening}
use Rattle.monk_audit.specs.{Reading.same, declared.text_verdict.TextVerdict.TextVerdict}

pub returns-clause-verdict : goal.returns-clause-verdict
returns-clause-verdict c =
    subst (λ (r : Result TextVerdict ReadFault). Gives same c.end.result r)
    (owed_opening c.args.bytes.now) c.end.ensures.verdict

pub returns-clause-too_big : goal.returns-clause-too_big
returns-clause-too_big c none = c.end.ensures.none none ∙ owed_opening c.args.bytes.now
