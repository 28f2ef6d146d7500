use Rattle.std.proofs.lemmas.{Result.MatchResult-weaker, Grind.common_steps}
use Rattle.std.proofs.Common.{refl, Some, arith}
use Rattle.monk_samples.proofs.visit.come_in_when.Goals as goal
use Rattle.monk_samples.proofs.PauseLaws.{paused_none, paused_then, stayed_out, tired_after, unready}
use Rattle.monk_samples.specs.{Trails.outside, Visits.guard}

pub returns-in-Ok : goal.returns-in-Ok
returns-in-Ok g c =
    let k = g.K.Kind.rules in let o = g.T.Guarded.meaning in let p = c.args.pass in let a = c.in-Ok.active in
    let w = Some (guard c.args.cond c.args.pred) in let came = paused_none k o (outside p) w a c.in-Ok.ensures.came in
    MatchResult-weaker c.pause_until.result c.pause_until.ensures
    (λ b h. (paused_then k o (outside p) w refl a b came h.0, h.1))
    (λ q t. unready k o (outside p) w q (tired_after k o (outside p) w refl a q came t))

pub returns-in-Err : goal.returns-in-Err
returns-in-Err g c = grind (arith, common_steps, stayed_out)
