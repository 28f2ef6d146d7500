use Rattle.std.{proofs.Common.subst, proofs.Common.sym, specs.Fmt.HasWritten}
use Rattle.monk_judge.proofs.step.LineWordsDisplay.fmt.Goals as goal
use Rattle.monk_judge.specs.Text.{line_text}

pub returns-in-Enter-clause-writes : goal.returns-in-Enter-clause-writes
returns-in-Enter-clause-writes g c = λ plain ok.
    subst (λ l. HasWritten g.W.Write.write_str_gives c.args.f.now (line_text l) c.write.new.self)
    (sym c.in-Enter.is) (c.write.ensures.writes plain ok)

pub returns-in-Resume-clause-writes : goal.returns-in-Resume-clause-writes
returns-in-Resume-clause-writes g c = λ plain ok.
    subst (λ l. HasWritten g.W.Write.write_str_gives c.args.f.now (line_text l) c.write-in-Resume.new.self)
    (sym c.in-Resume.is) (c.write-in-Resume.ensures.writes plain ok)

pub returns-in-Lapse-clause-writes : goal.returns-in-Lapse-clause-writes
returns-in-Lapse-clause-writes g c = λ plain ok.
    subst (λ l. HasWritten g.W.Write.write_str_gives c.args.f.now (line_text l) c.write-in-Lapse.new.self)
    (sym c.in-Lapse.is) (c.write-in-Lapse.ensures.writes plain ok)

pub returns-in-Leave-clause-writes : goal.returns-in-Leave-clause-writes
returns-in-Leave-clause-writes g c = λ plain ok.
    subst (λ l. HasWritten g.W.Write.write_str_gives c.args.f.now (line_text l) c.write-in-Leave.new.self)
    (sym c.in-Leave.is) (c.write-in-Leave.ensures.writes plain ok)

pub returns-in-Wait-clause-writes : goal.returns-in-Wait-clause-writes
returns-in-Wait-clause-writes g c = λ plain ok.
    subst (λ l. HasWritten g.W.Write.write_str_gives c.args.f.now (line_text l) c.write-in-Wait.new.self)
    (sym c.in-Wait.is) (c.write-in-Wait.ensures.writes plain ok)

pub returns-in-Signal-clause-writes : goal.returns-in-Signal-clause-writes
returns-in-Signal-clause-writes g c = λ plain ok.
    subst (λ l. HasWritten g.W.Write.write_str_gives c.args.f.now (line_text l) c.write-in-Signal.new.self)
    (sym c.in-Signal.is) (c.write-in-Signal.ensures.writes plain ok)

pub returns-in-Broadcast-clause-writes : goal.returns-in-Broadcast-clause-writes
returns-in-Broadcast-clause-writes g c = λ plain ok.
    subst (λ l. HasWritten g.W.Write.write_str_gives c.args.f.now (line_text l) c.write-in-Broadcast.new.self)
    (sym c.in-Broadcast.is) (c.write-in-Broadcast.ensures.writes plain ok)

pub returns-in-Until-clause-writes : goal.returns-in-Until-clause-writes
returns-in-Until-clause-writes g c = λ plain ok.
    subst (λ l. HasWritten g.W.Write.write_str_gives c.args.f.now (line_text l) c.write-in-Until.new.self)
    (sym c.in-Until.is) (c.write-in-Until.ensures.writes plain ok)

pub returns-in-Act-clause-writes : goal.returns-in-Act-clause-writes
returns-in-Act-clause-writes g c = λ plain ok.
    subst (λ l. HasWritten g.W.Write.write_str_gives c.args.f.now (line_text l) c.write-in-Act.new.self)
    (sym c.in-Act.is) (c.write-in-Act.ensures.writes plain ok)
