use Rattle.std.proofs.Common.{◌≡◌, ◌<◌, ◌+◌, ◌^◌, ◌++◌, ℕ, List, [], All, length}
use Rattle.monk_history.specs.{Meaning.Monitor.monitor, Text.Pieces.items_with, Text.Reading.event_under}
use Rattle.monk_audit.proofs.course.judge_lines.Given as goal
use Rattle.monk_audit.specs.{Replay.replay_situation, Reading.verdict_read, Pieces.verdict_from_here}

abbrev pub invariant-loop-event : goal.invariant-loop-event
invariant-loop-event g l =
    let m = monitor l.fn.course.rules l.fn.course.header.seats l.fn.course.header.conds g.T.Guarded.meaning [] in
    record {
      so_far : (more : List ℕ) → verdict_read m l.count (replay_situation l.course.replay (g.T.Guarded.state l.object))
          (items_with (event_under l.fn.course.header) l.lines more)
          ≡ verdict_from_here g.T.Guarded.meaning l.fn.course (g.T.Guarded.state l.fn.object) (l.fn.bytes ++ more);
      number : l.lines.number ≡ l.count + 2;
      room : l.count + l.lines.room ≡ 2 ^ 25;
      header : l.course.header ≡ l.fn.course.header;
      rules : l.course.rules ≡ l.fn.course.rules;
      seats : length l.course.replay.inside.items ≡ l.fn.course.header.seats;
      conds : length l.course.replay.conditions.items ≡ l.fn.course.header.conds;
      preds : All (λ w. w.1 < g.T.Guarded.PREDICATES) l.course.replay.untils.items;
    }

abbrev pub decreases-loop-event : goal.decreases-loop-event
decreases-loop-event g l = l.lines.room
