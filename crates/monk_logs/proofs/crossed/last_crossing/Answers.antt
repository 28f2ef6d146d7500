use Rattle.std.proofs.Common.{◌+◌, ◌-◌, ◌<◌, ◌≡◌, ◌∙◌, arith, length, sym}
use Rattle.monk_logs.proofs.CrossedLaws.{crossing_before, crossing_none, found_beginning, found_crossing}
use Rattle.monk_logs.proofs.crossed.last_crossing.Goals as goal
use Rattle.std.proofs.lemmas.Grind.{common_steps}

pub returns-then-crosses : goal.returns-then-crosses
returns-then-crosses c =
    let n = c.loop-number.number in
    let some = c.loop-number-test.true in
    let within = c.loop-number.invariant.within in
    let is : n ≡ n - 1 + 1 = omega arith in
    let lt : n - 1 < length c.args.before.now = omega arith in
    found_crossing c.args.seat c.args.cond c.args.before.now (n - 1) n _ _ is lt
    (sym c.crosses.ensures ∙ c.if-crosses.true) c.loop-number.invariant.crossing

pub returns-then-begins : goal.returns-then-begins
returns-then-begins c =
    let n = c.loop-number.number in
    let some = c.loop-number-test.true in
    let within = c.loop-number.invariant.within in
    let is : n ≡ n - 1 + 1 = omega arith in
    let lt : n - 1 < length c.args.before.now = omega arith in
    found_beginning c.args.seat c.args.cond c.args.before.now (n - 1) n _ _ is lt
    (sym c.crosses.ensures ∙ c.if-crosses.false) (sym c.begins.ensures ∙ c.if-begins.true)
    c.loop-number.invariant.crossing

pub loop-number-preserved : goal.loop-number-preserved
loop-number-preserved c =
    let n = c.loop-number.number in
    let some = c.loop-number-test.true in
    let within = c.loop-number.invariant.within in
    let is : n ≡ n - 1 + 1 = omega arith in
    let lt : n - 1 < length c.args.before.now = omega arith in
    grind (arith, common_steps, crossing_before)

pub returns : goal.returns
returns c =
    let none = c.loop-number-test.false in
    grind (arith, common_steps, crossing_none)
