-- The audit of a text that comes in pieces, as its callers see it
use Rattle.std.specs.Prelude.{ℕ, List, ◌++◌, Option, Some, None, Result, Err}
use Rattle.monk_history.specs.declared.text.fault.ReadFault.{ReadFault}
use Rattle.monk_audit.specs.{Pieces.owed_verdict, Pieces.IsSound, declared.stage.Stage.Stage}
use Rattle.monk_audit.specs.{declared.text_audit.TextAudit.TextAudit, declared.text_verdict.TextVerdict.TextVerdict}

-- what an audit still owes, unless it has found a fault
abbrev pub owed_by : Option ReadFault → Stage → List ℕ → List ℕ → Result TextVerdict ReadFault
owed_by None stage held more = owed_verdict stage (held ++ more)
owed_by (Some f) stage held more = Err f

-- what it answers, if these bytes are all that still comes
abbrev pub owes : TextAudit → List ℕ → Result TextVerdict ReadFault
owes a more = owed_by a.fault a.stage a.held.items more

-- no call of it has failed
abbrev pub IsGoingOn : TextAudit → Type 0
IsGoingOn a = IsSound a.stage
