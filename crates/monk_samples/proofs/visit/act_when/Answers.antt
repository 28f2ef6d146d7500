use Rattle.std.proofs.Common.{ℕ, ◌<◌, Some, subst, sym}
use Rattle.std.proofs.lemmas.Result.{MatchResult-weaker}
use Rattle.monk_history.specs.Meaning.Monitor.{data_of}
use Rattle.monk_floor.specs.View.{monitor_of}
use Rattle.monk_samples.proofs.visit.act_when.Goals as goal
use Rattle.monk_samples.proofs.PauseLaws.{acted_after, tired_inside, unready}
use Rattle.monk_samples.specs.{Trails.outside, Visits.guard}

pub returns-in-Ok-clause-acted : goal.returns-in-Ok-clause-acted
returns-in-Ok-clause-acted g c =
    let k = g.K.Kind.rules in let o = g.T.Guarded.meaning in let p = c.args.pass in let a = c.in-Ok.active in
    let w = Some (guard c.args.cond c.args.pred) in let f = a.floor in
    let done = c.requires.promise (data_of (monitor_of k o f) f.history) c.in-Ok.ensures.1 in
    MatchResult-weaker c.act.result c.act.ensures.acted
    (λ r h. (
      acted_after k o (outside p) w c.args.op r.1 a r.0 c.in-Ok.ensures.0 h.0,
      subst (λ (n : ℕ). 0 < n)
          (sym h.1) done,
    ))
    (λ q t. unready k o (outside p) w q (tired_inside k o (outside p) w a q c.in-Ok.ensures.0 t))
