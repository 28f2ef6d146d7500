use Rattle.std.proofs.{Common.rules, Common.arith, lemmas.Result.IfOk-weaker, lemmas.Grind.common_steps}
use Rattle.monk_commands.proofs.logs.drawing.answer_to_read.Goals as goal

pub returns : goal.returns
returns c =
    IfOk-weaker c.shown_if_there.result _ _ (λ a is. record {
      fits = λ fits. record {
        run = c.in_ok-run.run';
        is = c.in_ok-run.ensures;
        shown = grind (arith, common_steps);
      };
      too_big = λ big. absurd (search rules);
    }) c.shown_if_there.ensures
