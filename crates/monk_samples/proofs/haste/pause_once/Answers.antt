use Rattle.std.proofs.Common.{◌≡◌, false, Some, arith}
use Rattle.std.proofs.lemmas.{Result.MatchResult-weaker, Grind.common_steps}
use Rattle.monk_history.specs.Meaning.Monitor.{data_of}
use Rattle.monk_floor.specs.View.{monitor_of}
use Rattle.monk_samples.proofs.haste.pause_once.Goals as goal
use Rattle.monk_samples.proofs.{ShortLaws.still_pauses, TrailLaws.called_none}
use Rattle.monk_samples.proofs.PauseLaws.{left_after, looked_first, looked_none, paused_none}
use Rattle.monk_samples.specs.{Trails.inside, Visits.hasty_guard}

pub returns-then-holds-clause-paused : goal.returns-then-holds-clause-paused
returns-then-holds-clause-paused g c = grind (arith, common_steps, looked_none, called_none)

pub returns-clause-paused : goal.returns-clause-paused
returns-clause-paused g c =
    let k = g.K.Kind.rules in let o = g.T.Guarded.meaning in let a = c.args.active in
    let w = hasty_guard c.args.cond c.args.pred in
    let not_yet : o.holds (data_of (monitor_of k o a.floor) a.floor.history) c.args.pred ≡ false = cc in
    MatchResult-weaker c.pause_by.result c.pause_by.ensures.paused
    (λ b h. looked_first k o c.args.cond c.args.pred a b h not_yet)
    (λ q t. left_after k o (inside a) (Some w) a q (paused_none k o (inside a) (Some w) a (called_none (inside a))) 3 t
    (still_pauses k o a w t.floor not_yet))
