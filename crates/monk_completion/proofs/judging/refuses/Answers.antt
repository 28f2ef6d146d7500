use Rattle.std.proofs.Common.{◌∙◌, ℕ, Bool, not, [], sym, ap}
use Rattle.monk_history.specs.Meaning.{Choice.Queues, Choice.queues_at, Monitor.monitor, Reasons.reason_before}
use Rattle.monk_audit.specs.{Replay.replay_situation, Settled.permits}
use Rattle.monk_completion.proofs.judging.refuses.Goals as goal
use Rattle.monk_completion.{specs.Stand.monitor_in, proofs.FrontLaws.permits_same, proofs.Tests.permitted_only}

pub returns-in-None : goal.returns-in-None
returns-in-None g c =
    let k = c.args.setting in
    let o = g.T.Guarded.meaning in
    let e = c.args.event in
    let t = replay_situation c.args.replay.now (g.T.Guarded.state c.args.object.now) in
    let q = queues_at o t e in
    ap not (c.permits.ensures
    ∙ ap (λ (x : Queues). permits k.rules x c.must_stay-stays.result e) c.at.ensures
    ∙ permits_same k.rules q c.must_stay-stays.result e
    ∙ ap (λ (b : Bool). permits k.rules q b e) c.must_stay-stays.ensures
    ∙ sym (permitted_only (monitor_in k o) t e
    (c.in-None.ensures
    ∙ ap (λ (n : ℕ). reason_before 0 (monitor k.rules n k.conds o []) t e) c.requires.sound.has_seats)
    c.requires.no_act))
