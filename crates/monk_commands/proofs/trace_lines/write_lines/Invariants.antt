use Rattle.std.proofs.Common.{◌≡◌, ◌≤◌, ◌+◌, ◌^◌, length}
use Rattle.std.specs.Prelude.{false, string_bytes}
use Rattle.monk_history.specs.Text.Device.{has_failed, inner_of}
use Rattle.monk_floor.specs.View.{monitor_of}
use Rattle.monk_world.specs.WorldViews.{state_of_view}
use Rattle.monk_commands.proofs.trace_lines.write_lines.Given as goal
use Rattle.monk_commands.{specs.Following.IsBehind, specs.Traced.AreTraced, proofs.Traces.IsOnItsWay}

-- the lines come before those of the commands that are left, and the replay follows the world
abbrev pub invariant-loop-seat : goal.invariant-loop-seat
invariant-loop-seat g l =
    let k = g.K.Kind.rules in
    let o = g.T.Guarded.meaning in
    let first = state_of_view l.fn.world in
    let here = state_of_view l.world in
    let m = monitor_of k o first.floor in
    let contents = g.W.Write.contents in
    record {
      works : has_failed l.writer ≡ false;
      way : IsOnItsWay (contents (inner_of l.fn.writer)) (contents (inner_of l.writer)) (string_bytes l.page)
          (AreTraced l.name m l.number here l.play.2) (AreTraced l.name m 0 first l.fn.play.2);
      few : l.number + length l.play.2 ≤ 2 ^ 25;
      same : monitor_of k o here.floor ≡ monitor_of k o first.floor;
      behind : IsBehind (monitor_of k o here.floor) g.T.Guarded.PREDICATES l.follower.conds l.follower.replay
          (g.T.Guarded.state l.follower.object) here.floor.history;
    }

abbrev pub decreases-loop-seat : goal.decreases-loop-seat
decreases-loop-seat g l = length l.play.2
