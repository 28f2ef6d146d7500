use Rattle.std.proofs.Common.{◌∙◌, ap, ℕ}
use Rattle.monk_audit.specs.Replay.{replay_situation}
use Rattle.monk_tell.specs.Told.{inside_below, queues_shown}
use Rattle.monk_tell.proofs.standing.Standing.of.Goals as goal

pub returns : goal.returns
returns g c =
    let t = replay_situation c.args.replay.now (g.T.Guarded.state c.args.object.now) in
    let inside = c.in_ok-inside_seats.ensures ∙ ap (inside_below t.inside) c.seats.ensures in
    let queues = c.in_ok-of.ensures
    ∙ ap (λ (n : ℕ). queues_shown c.args.mode n g.T.Guarded.meaning t) c.conds.ensures in
    λ i. record {
      turn = c.turn.ensures t.state i;
      inside = inside i;
      state = c.in_ok-data_numbers.ensures i;
      queues = queues i;
    }
