use Rattle.std.proofs.Common.{◌≡◌, ◌∙◌, ◌||◌, ◌++◌, ℕ, Bool, List, [], sym, ap}
use Rattle.monk_history.specs.{Just.just, Meaning.Choice.queues_at}
use Rattle.monk_audit.specs.Replay.{has, replay_situation}
use Rattle.monk_completion.proofs.blaming.stands_in.Goals as goal
use Rattle.monk_completion.proofs.FrontLaws.{one_served, one_steps_back}
use Rattle.monk_completion.proofs.blaming.stands_in.Goals.{After-is_among, After-is_among-2}

waits : (g : _) (c : After-is_among g)
    → c.is_among.result ≡ has c.args.seat (queues_at g.T.Guarded.meaning
    (replay_situation c.args.replay.now (g.T.Guarded.state c.args.object.now)) c.args.event).waiters
waits g c =
    let t = replay_situation c.args.replay.now (g.T.Guarded.state c.args.object.now) in
    c.is_among.ensures
    ∙ ap (λ (xs : List ℕ). has c.args.seat (xs ++ just c.first_served.result))
    (c.deref.ensures.value ∙ c.in_ok-waiters.ensures [])
    ∙ ap (λ (xs : List ℕ). has c.args.seat (t.waiters ++ xs))
    (ap just c.first_served.ensures ∙ one_served t.condition c.args.event c.requires.release)

signals : (g : _) (c : After-is_among-2 g)
    → c.is_among-2.result ≡ has c.args.seat (queues_at g.T.Guarded.meaning
    (replay_situation c.args.replay.now (g.T.Guarded.state c.args.object.now)) c.args.event).signallers
signals g c =
    let t = replay_situation c.args.replay.now (g.T.Guarded.state c.args.object.now) in
    c.is_among-2.ensures
    ∙ ap (λ (xs : List ℕ). has c.args.seat (xs ++ just c.stepping_back.result))
    (c.deref-2.ensures.value ∙ c.in_ok-signallers.ensures [])
    ∙ ap (λ (xs : List ℕ). has c.args.seat (t.signallers ++ xs))
    (ap just c.stepping_back.ensures ∙ one_steps_back t.condition c.args.event)

pub returns-then-is_among : goal.returns-then-is_among
returns-then-is_among g c =
    let q = queues_at g.T.Guarded.meaning
    (replay_situation c.args.replay.now (g.T.Guarded.state c.args.object.now)) c.args.event in
    ap (λ (b : Bool). b || has c.args.seat q.signallers || has c.args.seat q.ready)
    (sym c.if-is_among.true ∙ waits g (goal.at.returns-then-is_among g c).After-is_among)

pub returns-then-is_among-2 : goal.returns-then-is_among-2
returns-then-is_among-2 g c =
    let q = queues_at g.T.Guarded.meaning
    (replay_situation c.args.replay.now (g.T.Guarded.state c.args.object.now)) c.args.event in
    let at = goal.at.returns-then-is_among-2 g c in
    ap (λ (b : Bool). b || has c.args.seat q.ready) (sym c.if-is_among-2.true ∙ signals g at.After-is_among-2)
    ∙ ap (λ (b : Bool). b || has c.args.seat q.signallers || has c.args.seat q.ready)
    (sym c.if-is_among.false ∙ waits g at.After-is_among)

pub returns : goal.returns
returns g c =
    let q = queues_at g.T.Guarded.meaning
    (replay_situation c.args.replay.now (g.T.Guarded.state c.args.object.now)) c.args.event in
    let at = goal.at.returns g c in
    c.is_ready.ensures
    ∙ ap (λ (b : Bool). b || has c.args.seat q.ready) (sym c.if-is_among-2.false ∙ signals g at.After-is_among-2)
    ∙ ap (λ (b : Bool). b || has c.args.seat q.signallers || has c.args.seat q.ready)
    (sym c.if-is_among.false ∙ waits g at.After-is_among)
