use Rattle.std.proofs.Common.{◌≡◌, ◌++◌, drop}
use Rattle.std.specs.{Prelude.string_bytes, List.flat_map}
use Rattle.monk_commands.proofs.logs.run_text.run_text.Given as goal
use Rattle.monk_commands.specs.RunText.{run_text, step_line}

-- with the lines of the steps that are left it is the text
abbrev pub invariant-loop-step : goal.invariant-loop-step
invariant-loop-step l =
    string_bytes l.page ++ flat_map step_line (drop l.step-index l.steps) ≡ run_text l.header l.steps
