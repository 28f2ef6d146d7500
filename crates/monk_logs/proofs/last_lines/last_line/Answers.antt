use Rattle.std.proofs.Common.{◌+◌, ◌∙◌, ap, refl, sym, ℕ, Some, true, false}
use Rattle.monk_logs.proofs.LastLineLaws.{last_more, last_none}
use Rattle.monk_logs.proofs.last_lines.last_line.Goals as goal
use Rattle.monk_logs.proofs.last_lines.last_line.Goals.{then-has, else-has}

pub loop-line-init : goal.loop-line-init
loop-line-init c = record { number = refl; last = last_none c.args.subject }

pub loop-line-preserved : goal.loop-line-preserved
loop-line-preserved c = record {
  number = ap (λ (n : ℕ). n + 1) c.loop-line.invariant.number;
  last = elim c.if-has.branch [
    | then-has w ↦ w.last-is
        ∙ (ap (λ (n : ℕ). Some (n + 1)) c.loop-line.invariant.number
        ∙ last_more c.args.subject c.args.lines.now c.loop-line.line-index _ c.loop-line.last true
        c.loop-line-test.true (sym c.has.ensures ∙ w.if-has.true) c.loop-line.invariant.last)
    | else-has w ↦ w.last-is
        ∙ last_more c.args.subject c.args.lines.now c.loop-line.line-index _ c.loop-line.last false
        c.loop-line-test.true (sym c.has.ensures ∙ w.if-has.false) c.loop-line.invariant.last
  ];
}
