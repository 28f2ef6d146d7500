use Rattle.monk_history.specs.Meaning.Monitor.{monitor}
use Rattle.monk_audit.specs.Replay.{IsReplayOf, replay_situation}
use Rattle.monk_completion.proofs.Lines.{Follows}
use Rattle.monk_completion.proofs.completing.follow.Given as goal

abbrev pub invariant-loop-i : goal.invariant-loop-i
invariant-loop-i g l =
    let k = l.setting in
    record {
      on : Follows (monitor k.rules k.seats k.conds g.T.Guarded.meaning (g.T.Guarded.state l.fn.object)) l.lines l.i
          (replay_situation l.replay (g.T.Guarded.state l.object)) l.pending l.events.items;
      sound : IsReplayOf k.seats k.conds g.T.Guarded.PREDICATES l.replay;
    }
