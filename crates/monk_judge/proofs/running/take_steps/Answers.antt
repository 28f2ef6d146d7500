use Rattle.std.proofs.Common.{◌+◌, ◌<◌, ◌≤◌, length, refl, sym, subst, arith}
use Rattle.monk_judge.specs.Shown.{setting_of}
use Rattle.monk_judge.proofs.Reaching.{Reached, reached_next, reached_opening, run_all, run_stop}
use Rattle.monk_judge.proofs.running.take_steps.Goals as goal

pub loop-index-init : goal.loop-index-init
loop-index-init g c =
    let v = c.args.judge.now in
    let o = g.T.Guarded.meaning in
    subst (λ k. Reached o (setting_of v o) v.data_now c.args.lines.now 0 v k) (sym c.requires.nothing)
    (reached_opening o (setting_of v o) v.data_now c.args.lines.now v refl c.requires.seats c.requires.opening)

pub loop-index-preserved : goal.loop-index-preserved
loop-index-preserved g c =
    let v = c.args.judge.now in
    let o = g.T.Guarded.meaning in
    let lt : c.loop-index.index < length c.args.lines.now = omega arith in
    let took = c.in-Ok.ensures {u = tt} in
    subst (λ k. Reached o (setting_of v o) v.data_now c.args.lines.now (c.loop-index.index + 1) c.line.new.self k)
    (sym (c.in_ok-push_steps-in-Ok.ensures o c.loop-index.judge c.line.new.self took))
    (reached_next o (setting_of v o) v.data_now c.args.lines.now c.args.ends.now c.loop-index.index
    c.loop-index.judge c.line.new.self c.loop-index.steps.items c.in-Ok.told lt c.requires.ends
    c.loop-index.invariant took)

pub returns-in-Err : goal.returns-in-Err
returns-in-Err g c =
    let v = c.args.judge.now in
    let o = g.T.Guarded.meaning in
    let lt : c.loop-index.index < length c.args.lines.now = omega arith in
    run_stop o (setting_of v o) v.data_now c.args.lines.now c.loop-index.index c.loop-index.judge c.line.new.self
    c.loop-index.steps.items
    _ lt c.loop-index.invariant (c.in-Err.ensures {u = tt}) refl

pub returns : goal.returns
returns g c =
    let v = c.args.judge.now in
    let o = g.T.Guarded.meaning in
    let all : length c.args.lines.now ≤ c.loop-index.index = omega arith in
    run_all o (setting_of v o) v.data_now c.args.lines.now c.loop-index.index c.loop-index.judge
    c.loop-index.steps.items all c.loop-index.invariant
