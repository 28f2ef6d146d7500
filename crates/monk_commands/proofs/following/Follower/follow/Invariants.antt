use Rattle.std.proofs.Common.{◌≡◌, List, ℕ, take}
use Rattle.monk_history.specs.Meaning.{Legal.IsLegal, Monitor.monitor, Situation.situation}
use Rattle.monk_audit.specs.Replay.{IsReplayOf, replay_situation, seats_in}
use Rattle.monk_commands.proofs.following.Follower.follow.Given as goal

-- the events so far are carried out
abbrev pub invariant-loop-index : goal.invariant-loop-index
invariant-loop-index g l =
    let seats = seats_in l.fn.self.replay in
    record {
      same : l.self.conds ≡ l.fn.self.conds;
      sound : IsReplayOf seats l.fn.self.conds g.T.Guarded.PREDICATES l.self.replay;
      stands : (opening : List ℕ)
          → let m = monitor l.rules seats l.fn.self.conds g.T.Guarded.meaning opening in
          IsLegal m l.events
          → replay_situation l.fn.self.replay (g.T.Guarded.state l.fn.self.object) ≡ situation m (take l.done l.events)
          → replay_situation l.self.replay (g.T.Guarded.state l.self.object) ≡ situation m (take l.index l.events);
    }
