use Rattle.std.proofs.Common.{◌∙◌, ℕ, Bool, cond, sym, ap, arith}
use Rattle.monk_history.specs.Meaning.{Choice.Queues, Choice.queues_at, Events.seat_of, Wish.unwished_choice}
use Rattle.monk_history.specs.declared.event.Next.TheVariants.{Stay}
use Rattle.monk_audit.specs.Replay.{replay_situation}
use Rattle.monk_completion.proofs.ending.unwished.Goals as goal
use Rattle.monk_completion.{specs.Fronts.shown, proofs.FrontLaws.unwished_same}
use Rattle.std.proofs.lemmas.Grind.{common_steps}

pub returns-then-must_stay : goal.returns-then-must_stay
returns-then-must_stay g c =
    let q = queues_at g.T.Guarded.meaning (replay_situation c.args.replay.now (g.T.Guarded.state c.args.object.now))
    c.args.event in
    grind (arith, common_steps)

pub returns : goal.returns
returns g c =
    let k = c.args.setting.rules in
    let e = c.args.event in
    let t = replay_situation c.args.replay.now (g.T.Guarded.state c.args.object.now) in
    let q = queues_at g.T.Guarded.meaning t e in
    c.unwished.ensures
    ∙ ap (λ (s : ℕ). unwished_choice k (shown c.at.result) s) c.seat.ensures
    ∙ ap (λ (x : Queues). unwished_choice k x (seat_of e)) c.at.ensures
    ∙ unwished_same k q (seat_of e)
    ∙ ap (λ (b : Bool). cond b Stay (unwished_choice k q (seat_of e))) (sym c.if-must_stay.false ∙ c.must_stay.ensures)
