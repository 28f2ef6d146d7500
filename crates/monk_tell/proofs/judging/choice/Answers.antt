use Rattle.monk_audit.specs.Replay.{replay_situation}
use Rattle.monk_tell.proofs.judging.choice.Goals as goal

pub returns-clause-chosen : goal.returns-clause-chosen
returns-clause-chosen g c =
    c.in_ok-choice.ensures g.T.Guarded.meaning
    (replay_situation c.args.replay.now (g.T.Guarded.state c.args.object.now))
    c.in_ok-lines.ensures c.must_stay-stays.ensures
