use Rattle.std.proofs.Common.{◌∙◌, ap, sym, [], arith}
use Rattle.monk_history.specs.Meaning.Monitor.{monitor}
use Rattle.monk_audit.specs.{Reasons.number_of, Replay.replay_situation}
use Rattle.monk_tell.proofs.judging.blame.Goals as goal
use Rattle.monk_tell.proofs.TellLaws.{in_range_fits}

pub choice-requires-clause-fits : goal.choice-requires-clause-fits
choice-requires-clause-fits g c κs within =
    in_range_fits (monitor c.args.rules c.args.header.now.seats c.args.header.now.conds g.T.Guarded.meaning [])
    (replay_situation c.args.replay.now (g.T.Guarded.state c.args.object.now)) c.args.fault.event 6 _ _
    (sym c.requires.reason ∙ ap number_of c.in-Choice.is) (λ one. omega (arith, one))
    g.T.Guarded.codes g.T.Guarded.predicates

pub own_reply-reply-requires-after_bounds : goal.own_reply-reply-requires-after_bounds
own_reply-reply-requires-after_bounds g c κs within =
    in_range_fits (monitor c.args.rules c.args.header.now.seats c.args.header.now.conds g.T.Guarded.meaning [])
    (replay_situation c.args.replay.now (g.T.Guarded.state c.args.object.now)) c.args.fault.event 5 _ _
    (sym c.requires.reason ∙ ap number_of c.in-Reply.is) (λ one. omega (arith, one))
    g.T.Guarded.codes g.T.Guarded.predicates
