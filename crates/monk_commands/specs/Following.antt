-- A replay that follows a history as it grows
use Rattle.std.specs.Prelude.{◌≡◌, ℕ, List}
use Rattle.monk_history.specs.{Meaning.Monitor.Monitor, Meaning.Situation.situation, declared.event.Event.Event}
use Rattle.monk_audit.specs.{Replay.IsReplayOf, Replay.replay_situation, declared.replay.Replay.Replay}

-- the replay is that of the events, with this state of the object and these numbers of predicates and conditions
pub record IsBehind (m : Monitor) (predicates conds : ℕ) (r : Replay) (state : List ℕ) (events : List Event)
    : Type 0 where
  pub stands : replay_situation r state ≡ situation m events
  pub sound : IsReplayOf m.seats m.conds predicates r
  pub conds_are : conds ≡ m.conds
