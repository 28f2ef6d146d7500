use Rattle.std.proofs.Common.{◌≡◌, ◌<◌, ◌≤◌, length, refl, arith}
use Rattle.monk_judge.proofs.judging.take_lines.Goals as goal
use Rattle.monk_judge.proofs.{Returning.hinted_opening, Rivals.marks_opening}
use Rattle.monk_judge.proofs.Taking.{hints_few, taken_all, taken_next, taken_opening, taken_stop}
use Rattle.monk_judge.specs.Shown.{setting_of}
use Rattle.std.proofs.lemmas.Grind.{common_steps}

pub loop-index-init : goal.loop-index-init
loop-index-init g c =
    let v = c.args.judge.now in
    let o = g.T.Guarded.meaning in
    grind (arith, common_steps, taken_opening, marks_opening, hinted_opening)

pub loop-index-preserved : goal.loop-index-preserved
loop-index-preserved g c =
    let v = c.args.judge.now in
    let o = g.T.Guarded.meaning in
    let lt : c.loop-index.index < length c.args.lines.now = omega arith in
    let more = c.line-in-Ok.ensures in
    let there = c.places.ensures.places in
    let many : length c.places.result.now ≡ length v.places = grind (arith, common_steps) in
    taken_next o (setting_of v o) v.data_now c.args.lines.now c.args.means.now c.args.ends.now
    c.loop-index.index c.loop-index.judge
    c.line.new.self
    c.loop-index.seen.tally c.line-in-Ok.new.self c.loop-index.seen.missed c.look_at.new.self
    c.loop-index.seen.passed.passing c.loop-index.seen.passed.seats c.look_at-on.new.self.passing
    c.look_at-on.new.self.seats c.loop-index.seen.hints c.come_back-seen.result
    c.in-Ok.told lt c.requires.ends c.loop-index.invariant
    (c.in-Ok.ensures {u = tt})
    (record {
      served = more.served;
      passed = more.passed;
      spurious = more.spurious;
      unheard = more.unheard;
      first = more.first;
      last = more.last;
      room = more.room;
    })
    c.look_at.ensures
    (record {
      marks = record {
        may = grind (arith, common_steps);
        some = grind (arith, common_steps);
      };
      on = c.look_at-on.result;
      told = c.look_at-on.ensures.result;
      mid = c.go_on.result;
      goes = c.go_on.ensures.goes;
      comes = c.come_back-seen.ensures;
    })

pub returns-in-Err : goal.returns-in-Err
returns-in-Err g c =
    let v = c.args.judge.now in
    let o = g.T.Guarded.meaning in
    let lt : c.loop-index.index < length c.args.lines.now = omega arith in
    taken_stop o (setting_of v o) v.data_now c.args.lines.now c.args.means.now c.loop-index.index
    c.loop-index.judge c.line.new.self
    c.loop-index.seen.tally c.loop-index.seen.missed c.loop-index.seen.passed.passing c.loop-index.seen.passed.seats
    c.loop-index.seen.hints
    _ lt c.loop-index.invariant (c.in-Err.ensures {u = tt}) refl

pub returns : goal.returns
returns g c =
    let v = c.args.judge.now in
    let o = g.T.Guarded.meaning in
    let all : length c.args.lines.now ≤ c.loop-index.index = omega arith in
    taken_all o (setting_of v o) v.data_now c.args.lines.now c.args.means.now c.loop-index.index c.loop-index.judge
    c.loop-index.seen.tally c.loop-index.seen.missed c.loop-index.seen.passed.passing c.loop-index.seen.passed.seats
    c.loop-index.seen.hints
    all c.loop-index.invariant

pub go_on-requires : goal.go_on-requires
go_on-requires g c =
    let v = c.args.judge.now in
    let o = g.T.Guarded.meaning in
    let le : c.loop-index.index ≤ length c.args.lines.now = omega arith in
    let few = hints_few o (setting_of v o) v.data_now c.args.lines.now c.args.means.now c.loop-index.index
    c.loop-index.judge c.loop-index.seen.tally c.loop-index.seen.missed c.loop-index.seen.passed.passing
    c.loop-index.seen.passed.seats
    c.loop-index.seen.hints le c.loop-index.invariant in
    omega (arith, few.1, c.requires.few)

pub come_back-seen-requires : goal.come_back-seen-requires
come_back-seen-requires g c =
    let v = c.args.judge.now in
    let o = g.T.Guarded.meaning in
    let le : c.loop-index.index ≤ length c.args.lines.now = omega arith in
    let few = hints_few o (setting_of v o) v.data_now c.args.lines.now c.args.means.now c.loop-index.index
    c.loop-index.judge c.loop-index.seen.tally c.loop-index.seen.missed c.loop-index.seen.passed.passing
    c.loop-index.seen.passed.seats
    c.loop-index.seen.hints le c.loop-index.invariant in
    omega (arith, few.0, c.requires.few, c.go_on.ensures.many)
