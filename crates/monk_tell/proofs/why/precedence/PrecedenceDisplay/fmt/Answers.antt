use Rattle.monk_tell.proofs.why.precedence.PrecedenceDisplay.fmt.Goals as goal

pub returns-in-ReadyBeforeEntry-clause-writes : goal.returns-in-ReadyBeforeEntry-clause-writes
returns-in-ReadyBeforeEntry-clause-writes g c = λ plain ok.
    rw (c.in-ReadyBeforeEntry.is, ← c.as_str-in-ReadyBeforeEntry.ensures)
    (c.write-in-ReadyBeforeEntry.ensures.writes plain ok)
