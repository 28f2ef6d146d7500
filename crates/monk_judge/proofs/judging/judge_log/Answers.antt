use Rattle.std.proofs.Common.{◌≡◌, subst, arith}
use Rattle.monk_judge.proofs.judging.judge_log.Goals as goal
use Rattle.monk_judge.{specs.declared.report.Report.Report, specs.Holding.NamesLastTaking, specs.Reports.IsReport}
use Rattle.monk_judge.{specs.Run.setting, specs.Shown.setting_of, proofs.Taking.report_is}
use Rattle.std.proofs.lemmas.Grind.{common_steps}

pub returns : goal.returns
returns g c =
    let o = g.T.Guarded.meaning in
    let opened = c.in_ok-judge.ensures in
    let v = c.in_ok-judge.judge in
    let same : setting_of v o ≡ setting c.args.seats c.args.conds o = grind (arith, common_steps) in
    let taken = c.take_lines-misfit in
    let seen = taken.result.0 in
    let named = subst (λ k. NamesLastTaking k c.last_taking.result) c.fitting-told.ensures c.last_taking.ensures in
    let r : Report = record {
      misfit = taken.result.1;
      tally = record {
        served = seen.tally.served;
        passed = seen.tally.passed;
        spurious = seen.tally.spurious;
        first_spurious = seen.tally.first_spurious;
        unheard = seen.tally.unheard;
        last_unheard = seen.tally.last_unheard;
        overtaken = seen.hints.many;
        again = seen.hints.again;
        first_not_again = seen.hints.first_not_again;
      };
      holder = c.holder.result;
      asleep = c.asleep.result;
      woken = c.woken.result;
      missed = seen.missed.line;
      crossed = c.find_crossed.result;
    } in
    let report : IsReport (setting_of v o) v.data_now c.args.lines.now c.args.means.now r = report_is (setting_of v o)
    v.data_now c.args.lines.now c.args.means.now taken.new.judge taken.result.1 seen.tally c.lock.result
    c.last_taking.result c.holder.result c.asleep.result c.woken.result seen.missed.line seen.hints
    c.fitting-told.result.now c.sleepers.result c.find_crossed.result taken.ensures
    named c.lock.ensures c.holder.ensures c.asleep.ensures c.woken.ensures c.fitting-told.ensures c.sleepers.ensures
    c.find_crossed.ensures in
    grind (arith, common_steps)
