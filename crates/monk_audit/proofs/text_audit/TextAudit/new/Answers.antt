use Rattle.monk_audit.proofs.PieceLaws.{owed_opening}
use Rattle.monk_audit.proofs.text_audit.TextAudit.new.Goals as goal

pub returns-clause-owes : goal.returns-clause-owes
returns-clause-owes c text = rw c.new.ensures.items (owed_opening text)
