use Rattle.monk_tell.proofs.why.staying.StayingDisplay.fmt.Goals as goal

pub returns-in-MustYield-clause-writes : goal.returns-in-MustYield-clause-writes
returns-in-MustYield-clause-writes g c = λ plain ok.
    rw (c.in-MustYield.is, ← c.as_str.ensures) (c.write-in-MustYield.ensures.writes plain ok)

pub returns-in-StepsBehind-clause-writes : goal.returns-in-StepsBehind-clause-writes
returns-in-StepsBehind-clause-writes g c = λ plain ok.
    rw c.in-StepsBehind.is (c.write-in-StepsBehind.ensures.writes plain ok)

pub returns-in-OwnSignal-clause-writes : goal.returns-in-OwnSignal-clause-writes
returns-in-OwnSignal-clause-writes g c = λ plain ok.
    rw c.in-OwnSignal.is (c.write-in-OwnSignal.ensures.writes plain ok)
