use Rattle.std.proofs.Common.{◌≡◌, ◌∙◌, ap, ℕ, List, [], arith}
use Rattle.std.proofs.lemmas.Grind.{common_steps}
use Rattle.monk_history.specs.Meaning.Events.{seat_of}
use Rattle.monk_audit.specs.Replay.{replay_situation}
use Rattle.monk_tell.proofs.sentences.early.Goals as goal
use Rattle.monk_tell.{proofs.TellLaws.place_caused, specs.Cause.conditions_below, specs.Cause.waits_at}

pub returns-in_ok-conditions-in-Turn : goal.returns-in_ok-conditions-in-Turn
returns-in_ok-conditions-in-Turn c =
    let h = c.args.header.now in
    let t = replay_situation c.args.replay.now [] in
    let e = c.args.event in
    let seat : c.seat-seat.result ≡ seat_of e = c.seat-seat.ensures in
    let queues = c.in_ok-conditions-in-Turn.ensures ∙ ap (conditions_below t.condition) c.conds-in-Turn.ensures in
    let waits = c.of_seat.ensures ∙ ap (λ (q : List (List ℕ)). waits_at q c.seat-seat.result) queues in
    let turn = c.turn.ensures [] in
    grind (arith, common_steps)

pub returns-in-Place : goal.returns-in-Place
returns-in-Place c =
    let h = c.args.header.now in
    let t = replay_situation c.args.replay.now [] in
    let e = c.args.event in
    let inside = c.is_inside.ensures [] ∙ ap t.inside c.seat-seat.ensures in
    grind (arith, common_steps, place_caused)
