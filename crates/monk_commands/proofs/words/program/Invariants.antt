use Rattle.std.proofs.Common.{◌≡◌, drop}
use Rattle.clap.specs.Words.{app_of}
use Rattle.monk_commands.specs.Request.{bare_app, with_commands}
use Rattle.monk_commands.proofs.words.program.Given as goal

-- with the commands that are left it is the whole program
abbrev pub invariant-loop-words : goal.invariant-loop-words
invariant-loop-words l =
    with_commands (app_of l.program) (drop l.words-index l.commands) ≡ with_commands bare_app l.commands
