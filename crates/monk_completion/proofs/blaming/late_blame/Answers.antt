use Rattle.monk_audit.specs.Replay.{replay_situation}
use Rattle.monk_completion.proofs.blaming.late_blame.Goals as goal
use Rattle.monk_completion.{specs.Stand.monitor_in, proofs.Tests.called_fits}

pub must_stay-stays-requires-clause-object : goal.must_stay-stays-requires-clause-object
must_stay-stays-requires-clause-object g c κs within =
    called_fits (monitor_in c.args.setting g.T.Guarded.meaning)
    (replay_situation c.args.replay.now (g.T.Guarded.state c.args.object.now)) c.args.event g.T.Guarded.CODES
    g.T.Guarded.PREDICATES c.requires.called g.T.Guarded.codes g.T.Guarded.predicates
