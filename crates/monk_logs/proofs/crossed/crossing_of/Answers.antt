use Rattle.std.proofs.Common.{◌∙◌, None, ⊎_elim, ap, arith, reverse, sym}
use Rattle.monk_logs.proofs.crossed.crossing_of.Goals as goal
use Rattle.monk_logs.proofs.CrossedLaws.{crossing_front, crossing_told, no_crossing, told_within}
use Rattle.monk_logs.specs.{Crossed.crossing_at, declared.text.line.LogLine.TheVariants.Enter}

pub returns-in_err-number : goal.returns-in_err-number
returns-in_err-number c = λ s is.
    c.from_residual.ensures ∙ crossing_told s c.args.lines.now (Enter 0) None (sym c.in_err-number.was ∙ is)

pub returns-in_err-get : goal.returns-in_err-get
returns-in_err-get c = λ s is.
    let within = told_within s c.args.lines.now c.in_ok-number.field-0 (sym c.in_ok-number.was ∙ is) in
    let high = within.1 in
    absurd (⊎_elim (λ below. omega arith) (λ above. omega arith) c.in_err-get.ensures.lookup.0)

pub returns-in_err-line : goal.returns-in_err-line
returns-in_err-line c = λ s is.
    let within = told_within s c.args.lines.now c.in_ok-number.field-0 (sym c.in_ok-number.was ∙ is) in
    let low = within.0 in
    let empty = c.in_err-line.ensures.cases in
    let long = c.in_ok-get.ensures.lookup.0.3 in
    absurd (omega arith)

pub returns-in-Wait : goal.returns-in-Wait
returns-in-Wait c = λ s is.
    c.last_crossing.ensures
    ∙ ap (λ l. crossing_at l (reverse c.in_ok-line.before.now)) (sym c.in-Wait.is)
    ∙ crossing_front s c.args.lines.now c.in_ok-get.field-0.now c.in_ok-line.before.now c.in_ok-line.line.now
    c.in_ok-number.field-0 (sym c.in_ok-number.was ∙ is) c.in_ok-get.ensures.lookup.0.2
    c.in_ok-line.ensures.cases.0

pub returns-in_default : goal.returns-in_default
returns-in_default c = λ s is.
    no_crossing c.in_ok-line.line.now (reverse c.in_ok-line.before.now) c.in_default.not-Wait
    ∙ crossing_front s c.args.lines.now c.in_ok-get.field-0.now c.in_ok-line.before.now c.in_ok-line.line.now
    c.in_ok-number.field-0 (sym c.in_ok-number.was ∙ is) c.in_ok-get.ensures.lookup.0.2
    c.in_ok-line.ensures.cases.0
