-- What contracts see of a floor
use Rattle.std.specs.Prelude.{ℕ, List, []}
use Rattle.monk_kinds.specs.declared.mode.Rules.{Rules}
use Rattle.monk_object.specs.Object.{Object}
use Rattle.monk_history.specs.Meaning.{Monitor.Monitor, Monitor.monitor, Situation.Situation, Situation.situation}
use Rattle.monk_history.specs.declared.event.Event.{Event}

-- its object's opening state, its numbers, and its history
pub record FloorView : Type 0 where
  pub opening : List ℕ
  pub seats : ℕ
  pub conds : ℕ
  pub budget : ℕ
  pub history : List Event

-- the monitor whose history it keeps
abbrev pub monitor_of : Rules → Object → FloorView → Monitor
monitor_of k o f = monitor k f.seats f.conds o f.opening

-- the situation of that monitor after its history
abbrev pub stands_of : Rules → Object → FloorView → Situation
stands_of k o f = situation (monitor_of k o f) f.history

-- a floor before any event
abbrev pub empty_floor : List ℕ → ℕ → ℕ → ℕ → FloorView
empty_floor opening seats conds budget =
    record { opening = opening; seats = seats; conds = conds; budget = budget; history = [] }
