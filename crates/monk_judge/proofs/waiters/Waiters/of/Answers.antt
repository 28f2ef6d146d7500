use Rattle.std.proofs.Common.{◌∙◌, ◌+◌, ◌≤◌, [], false, get_or, length, take, ap, arith, subst, sym, take_all}
use Rattle.std.proofs.{Math.ListN.length-replicate, Math.ListN.length-set, lemmas.Grind.common_steps}
use Rattle.monk_logs.specs.declared.text.line.LogLine.TheVariants.{Enter}
use Rattle.monk_judge.proofs.waiters.Waiters.of.Goals as goal
use Rattle.monk_judge.proofs.Waiting.{no_wait, waiters_more, waiters_opening, waiters_same}
use Rattle.monk_judge.proofs.waiters.Waiters.of.Goals.{in-Wait, in_default}
use Rattle.monk_judge.specs.Hints.{AreWaiters}

pub loop-line-init : goal.loop-line-init
loop-line-init c =
    let empty = c.in_ok-table.ensures.items_if_clones_equal (λ y same. same) in
    record {
      size = ap (λ t. length t) empty ∙ length-replicate 65536 false;
      are = subst (λ t. AreWaiters [] t) (sym empty) waiters_opening;
    }

pub loop-line-preserved : goal.loop-line-preserved
loop-line-preserved c =
    let log = c.args.lines.now in
    let i = c.loop-line.line-index in
    let table = c.loop-line.table.items in
    let was = c.loop-line.invariant in
    elim c.match-line.branch [
      | in-Wait w ↦ grind (arith, common_steps, length-set, waiters_more)
      | in_default w ↦
          let same = ap (λ t. t.items) w.table-is in
          record {
            size = ap (λ t. length t) same ∙ was.size;
            are = subst (λ t. AreWaiters (take (i + 1) log) t) (sym same)
                (waiters_same log table i c.loop-line-test.true
                (λ s e. no_wait (get_or log i (Enter 0)) s e w.in_default.not-Wait) was.are);
          }
    ]

pub returns : goal.returns
returns c =
    let all : length c.args.lines.now ≤ c.loop-line.line-index = c.loop-line-test.false in
    grind (arith, common_steps, take_all)
