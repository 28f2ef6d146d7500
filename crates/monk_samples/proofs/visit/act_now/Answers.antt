use Rattle.std.proofs.{Common.None, lemmas.Result.MatchResult-weaker}
use Rattle.monk_samples.proofs.visit.act_now.Goals as goal
use Rattle.monk_samples.proofs.PauseLaws.{acted_after, paused_none, stayed_out, tired_after, unready}
use Rattle.monk_samples.specs.Trails.{outside}

pub returns-in-Ok : goal.returns-in-Ok
returns-in-Ok g c =
    let k = g.K.Kind.rules in let o = g.T.Guarded.meaning in let p = c.args.pass in let a = c.in-Ok.active in
    let came = paused_none k o (outside p) None a c.in-Ok.ensures.came in
    MatchResult-weaker c.act.result c.act.ensures.acted
    (λ r h. acted_after k o (outside p) None c.args.op r.1 a r.0 came h.0)
    (λ q t. unready k o (outside p) None q (tired_after k o (outside p) None tt a q came t))

pub returns-in-Err : goal.returns-in-Err
returns-in-Err g c = stayed_out g.K.Kind.rules g.T.Guarded.meaning c.args.pass c.in-Err.pass None c.in-Err.ensures.came
