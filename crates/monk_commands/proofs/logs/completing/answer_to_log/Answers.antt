use Rattle.std.proofs.Common.{rules}
use Rattle.monk_commands.proofs.logs.completing.answer_to_log.Goals as goal

pub returns : goal.returns
returns c = record {
  fits = λ fits. record {
    run = c.in_ok-run.run';
    is = c.in_ok-run.ensures;
    given = c.in_ok-given.ensures;
  };
  too_big = λ big. absurd (search rules);
}
