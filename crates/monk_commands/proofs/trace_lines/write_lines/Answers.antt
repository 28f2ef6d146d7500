use Rattle.std.proofs.Common.{◌≡◌, ◌∙◌, ℕ, ◌+◌, ◌++◌, List, [], length, ap, arith}
use Rattle.std.{proofs.lemmas.Result.on_ok_weaker, specs.Prelude.string_bytes}
use Rattle.monk_history.specs.Meaning.{Monitor.Monitor, Monitor.monitor, Situation.situation}
use Rattle.monk_history.specs.Text.Device.{inner_of}
use Rattle.monk_floor.specs.View.{monitor_of}
use Rattle.monk_world.specs.{WorldViews.state_of_view, declared.command.Command.Command}
use Rattle.monk_commands.proofs.trace_lines.write_lines.Goals as goal
use Rattle.monk_commands.proofs.Traces.{goes_on, traced_all, traced_on}
use Rattle.monk_commands.specs.Traced.{AreTraced, trace_line}

pub loop-seat-preserved : goal.loop-seat-preserved
loop-seat-preserved g c =
    let k = g.K.Kind.rules in
    let o = g.T.Guarded.meaning in
    let contents = g.W.Write.contents in
    let name = c.args.name in
    let first = state_of_view c.args.world.now in
    let here = state_of_view c.loop-seat.world in
    let next = state_of_view c.step.new.world in
    let m = monitor_of k o first.floor in
    let told : ℕ × Command = (c.in-Some.seat, c.in-Some.command) in
    let before = c.loop-seat.number in
    let answer = c.in_ok-answer.answer in
    let stepped = c.in_ok-answer.ensures in
    let page = string_bytes c.loop-seat.page in
    let same : monitor_of k o next.floor ≡ m = stepped.same ∙ c.loop-seat.invariant.same in
    let stands = stepped.behind.stands ∙ ap (λ (x : Monitor). situation x next.floor.history) same in
    let conds = stepped.behind.conds_are ∙ ap (λ (x : Monitor). x.conds) same in
    let line = trace_line name m (before + 1) told answer next (situation m next.floor.history) in
    let put = c.in_ok-put_line.ensures
    ∙ (λ i. page ++ trace_line name (monitor k 0 (conds i) o []) (before + 1) told answer next (stands i)) in
    let written = c.in_ok-write_full_page.ensures.written in
    record {
      works = c.in_ok-write_full_page.ensures.works;
      way =
          goes_on (contents (inner_of c.args.writer.now)) (contents (inner_of c.loop-seat.writer))
          (contents (inner_of c.write_full_page.new.writer)) page (string_bytes c.put_line.new.page) written.0
          (string_bytes c.write_full_page.new.page) line (AreTraced name m before here c.loop-seat.play.2)
          (AreTraced name m (before + 1) next c.next.new.self.2) (AreTraced name m 0 first c.args.play.2)
          c.loop-seat.invariant.way put
          (λ last rest are.
          traced_on name m before here c.loop-seat.play.2 c.next.new.self.2 told answer next last rest
          c.in-Some.ensures.command stepped.step are)
          written.1.0 written.1.1;
      few =
          omega (
            arith,
            c.loop-seat.invariant.few,
            ap (λ (l : List (ℕ × Command)). length l) c.in-Some.ensures.command,
          );
      same = same;
      behind = stepped.behind;
    }

pub returns-clause-traced : goal.returns-clause-traced
returns-clause-traced g c =
    let contents = g.W.Write.contents in
    let first = state_of_view c.args.world.now in
    let m = monitor_of g.K.Kind.rules g.T.Guarded.meaning first.floor in
    on_ok_weaker c.write_page.result
    (traced_all c.args.name m c.loop-seat.number (state_of_view c.loop-seat.world) c.loop-seat.play.2
    (contents (inner_of c.args.writer.now)) (contents (inner_of c.loop-seat.writer))
    (contents (inner_of c.write_page.new.writer)) (string_bytes c.loop-seat.page)
    (AreTraced c.args.name m 0 first c.args.play.2) c.in_default.ensures.command c.loop-seat.invariant.way)
    c.write_page.ensures.written
