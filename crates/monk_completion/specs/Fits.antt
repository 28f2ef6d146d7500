-- Which logs could come from a monitor
use Rattle.std.specs.Prelude.{◌≡◌, List, ◌++◌}
use Rattle.monk_history.specs.{declared.event.Event.Event, Meaning.Legal.IsLegal, Meaning.Monitor.Monitor}
use Rattle.monk_logs.specs.declared.text.line.LogLine.{LogLine}
use Rattle.monk_completion.specs.Erasure.{erasure}

-- some legal history of the monitor begins with the log
pub record IsOpen (m : Monitor) (log : List LogLine) : Type 0 where
  pub history : List Event
  pub legal : IsLegal m history
  pub more : List LogLine
  pub erases : erasure history ≡ log ++ more
