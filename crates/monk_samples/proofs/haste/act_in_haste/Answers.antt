use Rattle.std.proofs.{Common.Some, Common.arith, lemmas.Result.MatchResult-weaker, lemmas.Grind.common_steps}
use Rattle.monk_samples.proofs.haste.act_in_haste.Goals as goal
use Rattle.monk_samples.proofs.PauseLaws.{acted_looked, stayed_out, tired_inside, unready}
use Rattle.monk_samples.proofs.HasteLaws.{looked_since, tired_since}
use Rattle.monk_samples.specs.{Trails.outside, Visits.hasty_guard}

pub returns-in-Err-clause-acted : goal.returns-in-Err-clause-acted
returns-in-Err-clause-acted g c = grind (arith, common_steps, stayed_out)

pub returns-in-Ok-pause_once-clause-acted : goal.returns-in-Ok-pause_once-clause-acted
returns-in-Ok-pause_once-clause-acted g c =
    let k = g.K.Kind.rules in let o = g.T.Guarded.meaning in let p = c.args.pass in
    let w = Some (hasty_guard c.args.cond c.args.pred) in
    let b = c.in-Ok-pause_once.active in
    let s = looked_since k o (outside p) c.args.cond c.args.pred c.in-Ok.active b c.in-Ok.ensures.came
    c.in-Ok-pause_once.ensures.paused in
    MatchResult-weaker c.act.result c.act.ensures.acted
    (λ r h. acted_looked k o (outside p) c.args.cond c.args.pred c.args.op r.1 b r.0 c.requires.promise s h.0 h.1)
    (λ q t. unready k o (outside p) w q (tired_inside k o (outside p) w b q s.paused t))

pub returns-in-Err-pause_once-clause-acted : goal.returns-in-Err-pause_once-clause-acted
returns-in-Err-pause_once-clause-acted g c =
    let k = g.K.Kind.rules in let o = g.T.Guarded.meaning in let p = c.args.pass in
    let w = Some (hasty_guard c.args.cond c.args.pred) in
    unready k o (outside p) w c.in-Err-pause_once.pass
    (tired_since k o (outside p) w c.in-Ok.active c.in-Err-pause_once.pass c.in-Ok.ensures.came
    c.in-Err-pause_once.ensures.paused)

pub returns-in-Ok-pause_once-clause-done : goal.returns-in-Ok-pause_once-clause-done
returns-in-Ok-pause_once-clause-done g c = grind (arith, common_steps)
