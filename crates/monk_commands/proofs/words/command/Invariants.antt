use Rattle.std.proofs.Common.{◌≡◌, drop, false, map}
use Rattle.std.specs.Prelude.{fold}
use Rattle.clap.specs.{Words.app_of, Words.with_rule, declared.builder.command.Command.TheViews.out-Command}
use Rattle.monk_commands.proofs.words.command.Given as goal
use Rattle.monk_commands.specs.Request.{command_app, word_rule}

-- with the words that are left it is the command
abbrev pub invariant-loop-word : goal.invariant-loop-word
invariant-loop-word l = record {
  is : fold with_rule (app_of l.command) (map word_rule (drop l.word-index l.words.words.now)) ≡ command_app l.words;
  own : (out-Command l.command).has_globals ≡ false;
}
