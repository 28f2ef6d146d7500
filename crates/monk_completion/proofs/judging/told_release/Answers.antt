use Rattle.std.proofs.Common.{◌∙◌, ap}
use Rattle.monk_history.specs.Meaning.{Choice.Queues, Choice.queues_at, Release.with_next}
use Rattle.monk_history.specs.declared.event.Next.{Next}
use Rattle.monk_audit.specs.Replay.{replay_situation}
use Rattle.monk_completion.proofs.judging.told_release.Goals as goal
use Rattle.monk_completion.{specs.Told.told_next, proofs.FrontLaws.told_same}

pub returns : goal.returns
returns g c =
    let t = replay_situation c.args.replay.now (g.T.Guarded.state c.args.object.now) in
    c.with_next.ensures
    ∙ ap (λ (x : Next). with_next x c.args.event)
    (c.told_next.ensures ∙ ap (λ (q : Queues). told_next q c.args.line) c.at.ensures
    ∙ told_same (queues_at g.T.Guarded.meaning t c.args.event) c.args.line)
