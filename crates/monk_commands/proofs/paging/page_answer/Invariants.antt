use Rattle.std.proofs.Common.{◌≤◌}
use Rattle.std.specs.Prelude.{string_bytes}
use Rattle.monk_commands.specs.Paged.{ArePaged}
use Rattle.monk_commands.proofs.paging.page_answer.Given as goal

-- the parts so far come one after the other
abbrev pub invariant-loop-history : goal.invariant-loop-history
invariant-loop-history l = record {
  articles : ArePaged l.window l.histories l.history-index (string_bytes l.articles);
  status : l.status ≤ 1;
}
