-- Commands in order, and the tests of a command that need no state
use Rattle.std.specs.Prelude.{◌≡◌, ℕ, Bool, List, true, not, ◌&&◌, nat_lt, map}
use Rattle.monk_kinds.specs.declared.mode.{Mode.Mode, Rules.Rules}
use Rattle.monk_object.specs.Object.{Object}
use Rattle.monk_history.specs.Meaning.Events.{has_conditions, has_signaller_queue, returns_at_once, is_non_blocking}
use Rattle.monk_world.specs.{Runs.Told, Runs.IsRun, State.State}
use Rattle.monk_world.specs.declared.command.Command.{Command}
use Rattle.monk_world.specs.declared.command.Command.TheVariants.{Arrive, Look, Out, Peek, Drop, Grant, Act, Leave}
use Rattle.monk_world.specs.declared.command.Command.TheVariants.{Wait, Signal, SignalLeave, Until, SignalAll}
use Rattle.monk_world.specs.declared.command.Command.TheVariants.{SignalWait}

-- the condition, the predicate and the code are in range
abbrev pub is_command_in_range : ℕ → ℕ → ℕ → Command → Bool
is_command_in_range conds codes predicates Arrive = true
is_command_in_range conds codes predicates Look = true
is_command_in_range conds codes predicates Out = true
is_command_in_range conds codes predicates Peek = true
is_command_in_range conds codes predicates Drop = true
is_command_in_range conds codes predicates Grant = true
is_command_in_range conds codes predicates (Act op) = nat_lt op.code codes
is_command_in_range conds codes predicates (Leave pick) = true
is_command_in_range conds codes predicates (Wait c pick) = nat_lt c conds
is_command_in_range conds codes predicates (Signal c pick) = nat_lt c conds
is_command_in_range conds codes predicates (SignalLeave c pick) = nat_lt c conds
is_command_in_range conds codes predicates (Until p pick) = nat_lt p predicates
is_command_in_range conds codes predicates (SignalAll c) = nat_lt c conds
is_command_in_range conds codes predicates (SignalWait c d pick) = nat_lt c conds && nat_lt d conds

-- the mode has the call
abbrev pub is_command_offered : Mode → Command → Bool
is_command_offered mode Arrive = true
is_command_offered mode Look = true
is_command_offered mode Out = true
is_command_offered mode Peek = true
is_command_offered mode Drop = true
is_command_offered mode Grant = true
is_command_offered mode (Act op) = true
is_command_offered mode (Leave pick) = true
is_command_offered mode (Wait c pick) = has_conditions mode
is_command_offered mode (Signal c pick) = has_signaller_queue mode
is_command_offered mode (SignalLeave c pick) = returns_at_once mode
is_command_offered mode (Until p pick) = not (has_conditions mode)
is_command_offered mode (SignalAll c) = is_non_blocking mode
is_command_offered mode (SignalWait c d pick) = returns_at_once mode

-- the seat and the command of a step
abbrev pub command_of : Told → ℕ × Command
command_of x = (x.seat, x.command)

-- a run by these commands, each with some answer
pub record IsLed (k : Rules) (o : Object) (s : State) (commands : List (ℕ × Command)) (t : State) : Type 0 where
  pub told : List Told
  pub by_commands : map command_of told ≡ commands
  pub is_run : IsRun k o s told t
