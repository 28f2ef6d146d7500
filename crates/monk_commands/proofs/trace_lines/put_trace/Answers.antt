use Rattle.std.proofs.Common.{◌≡◌, ◌∙◌, ℕ, [], sym, subst, arith}
use Rattle.monk_history.proofs.PublicLaws.Meaning.{situation-none}
use Rattle.monk_history.specs.Meaning.{Monitor.monitor, Situation.situation, Step.opening_situation}
use Rattle.monk_audit.specs.Replay.{IsReplayOf, replay_situation}
use Rattle.monk_commands.proofs.trace_lines.put_trace.Goals as goal
use Rattle.std.proofs.lemmas.Grind.{common_steps}

pub write_lines-requires-clause-behind : goal.write_lines-requires-clause-behind
write_lines-requires-clause-behind g c κs within =
    let k = g.K.Kind.rules in
    let o = g.T.Guarded.meaning in
    let opening = g.T.Guarded.state c.args.object in
    let h = c.args.play.0 in
    let r = c.in_ok-replay.replay in
    let seats : c.seats-seats.result ≡ h.seats = grind (arith, common_steps) in
    let conds : c.conds-conds.result ≡ h.conds = grind (arith, common_steps) in
    let none : replay_situation r opening ≡ situation (monitor k h.seats h.conds o opening) [] =
    c.in_ok-replay.ensures.stands k o opening ∙ (λ i. opening_situation (monitor k (seats i) (conds i) o opening))
    ∙ sym (situation-none (monitor k h.seats h.conds o opening)) in
    let sound : IsReplayOf h.seats h.conds g.T.Guarded.PREDICATES r =
    subst (λ (n : ℕ). IsReplayOf n h.conds g.T.Guarded.PREDICATES r) seats
    (subst (λ (n : ℕ). IsReplayOf c.seats-seats.result n g.T.Guarded.PREDICATES r) conds
    (c.in_ok-replay.ensures.sound g.T.Guarded.PREDICATES)) in
    grind (arith, common_steps)
