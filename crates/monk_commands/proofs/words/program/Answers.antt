use Rattle.std.proofs.Common.{◌≡◌, ℕ, ◌+◌, ◌<◌, List, length, get_or, drop, add-one}
use Rattle.std.proofs.Math.Seq.{drop-cons}
use Rattle.clap.specs.Words.{App, with_subcommand}
use Rattle.monk_commands.proofs.words.program.Goals as goal
use Rattle.monk_commands.specs.{Request.command_app, Request.with_commands, declared.commands.CommandWords.CommandWords}

-- with one more command
commands_more : (a b new : App) (cs : List CommandWords) (i : ℕ) (c : CommandWords) → i < length cs
    → with_commands a (drop i cs) ≡ b → new ≡ with_subcommand a (command_app (get_or cs i c)).top
    → with_commands new (drop (i + 1) cs) ≡ b
commands_more a b new cs i c within so_far is = rw (is, add-one) (rw (drop-cons cs i c within) at so_far)

pub loop-words-preserved : goal.loop-words-preserved
loop-words-preserved c =
    commands_more _ _ _ c.args.commands.now c.loop-words.words-index _ c.loop-words-test.true c.loop-words.invariant
    (c.in_ok-program-2.ensures _ c.in_ok-command.ensures)
