use Rattle.std.proofs.Common.{◌≡◌, ◌∙◌, ℕ, List, sym, ap, subst}
use Rattle.std.{proofs.lemmas.Result.on_ok_weaker, specs.Io.KnownBytes.Appends}
use Rattle.monk_history.specs.{Text.Heading, Text.Device.inner_of, Meaning.Monitor.monitor}
use Rattle.monk_world.specs.{WorldViews.state_of_view, Runs.opening_state, State.State}
use Rattle.monk_commands.proofs.reporting.play_as.Goals as goal
use Rattle.monk_commands.{specs.Traced.AreTraced, specs.Played.IsPlayedBy, specs.Reported.IsReportedBy}
use Rattle.monk_commands.{specs.Reported.report_with, specs.declared.report.Report.Report, proofs.PlayExact.led_to}

pub returns-in-Ok-write-clause-played : goal.returns-in-Ok-write-clause-played
returns-in-Ok-write-clause-played g c =
    let play = c.args.play in
    let k = g.K.Kind.rules in
    let o = g.T.Guarded.meaning in
    let opening = g.T.Guarded.state c.args.object in
    let first = state_of_view c.in-Ok.world in
    let last = state_of_view c.run_lines.new.self in
    let puts =
    Appends (g.W.Write.contents (inner_of c.args.writer.now)) (g.W.Write.contents (inner_of c.write.new.out)) in
    subst (λ (r : Report). IsReportedBy r k o opening play.0 play.1 play.2 puts) (sym (ap report_with c.in-None.is))
    (subst (λ (h : Heading). IsPlayedBy k o opening h play.1 play.2 puts) c.header-header.ensures
    (subst (λ (b : ℕ). IsPlayedBy k o opening c.header-header.result b play.2 puts) c.budget.ensures (
      c.history.result.now,
      (
        led_to k o opening c.header-header.result c.budget.result play.2 c.history.result.now c.seats.result
            c.conds.result first last
            c.seats.ensures c.conds.ensures c.in-Ok.ensures.made.1 c.run_lines.ensures.led c.run_lines.ensures.recorded
            c.history.ensures.history c.history.ensures.legal c.history.ensures.few c.in-Ok-write.ensures.has_text,
        c.in-Ok-write.ensures.ok.0,
      ),
    )))

pub returns-in-Ok-clause-played : goal.returns-in-Ok-clause-played
returns-in-Ok-clause-played g c =
    let k = g.K.Kind.rules in
    let o = g.T.Guarded.meaning in
    let opening = g.T.Guarded.state c.args.object in
    let play = c.args.play in
    let h = play.0 in
    let puts =
    Appends (g.W.Write.contents (inner_of c.args.writer.now))
    (g.W.Write.contents (inner_of c.put_trace.new.writer)) in
    let seats : c.seats.result ≡ h.seats = c.seats.ensures ∙ ap (λ (x : Heading). x.seats) c.header-header.ensures in
    let conds : c.conds.result ≡ h.conds = c.conds.ensures ∙ ap (λ (x : Heading). x.conds) c.header-header.ensures in
    let first : state_of_view c.in-Ok.world ≡ opening_state opening h.seats h.conds play.1 =
    c.in-Ok.ensures.made.1 ∙ (λ i. opening_state opening (seats i) (conds i) (c.budget.ensures i)) in
    let last = state_of_view c.put_trace.new.world in
    on_ok_weaker c.put_trace.result (λ traced.
    subst (λ (r : Report). IsReportedBy r k o opening h play.1 play.2 puts) (sym (ap report_with c.in-Some.is)) (
      last,
      (
        traced.0,
        (
          subst (λ (s : State). AreTraced h.object (monitor k h.seats h.conds o opening) 0 s play.2 last traced.0) first
              (subst
              (λ (d : List ℕ). AreTraced h.object (monitor k h.seats h.conds o d) 0
              (state_of_view c.in-Ok.world) play.2 last traced.0)
              (c.requires.alike c.in-Some.shown c.in-Some.is) traced.1.0),
          traced.1.1,
        ),
      ),
    ))
    c.put_trace.ensures.traced
