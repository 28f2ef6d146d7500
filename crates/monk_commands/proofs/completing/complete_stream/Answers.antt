use Rattle.std.proofs.{lemmas.Result.IfOk-weaker, lemmas.Grind.common_steps, Common.arith}
use Rattle.monk_commands.proofs.completing.complete_stream.Goals as goal
use Rattle.monk_commands.proofs.{Completions.exactly_misfit, Completions.exactly_open, Known.on_known}

pub returns-clause-open : goal.returns-clause-open
returns-clause-open g c =
    IfOk-weaker c.complete_text.result _ _ (λ status a.
    on_known _ c.in_ok-bytes.bytes.items _ c.in_ok-bytes.ensures.bytes
    (exactly_open c.args.kind c.in_ok-bytes.bytes.items status _ a))
    c.complete_text.ensures.answer

pub returns-clause-misfit : goal.returns-clause-misfit
returns-clause-misfit g c =
    IfOk-weaker c.complete_text.result _ _ (λ status a.
    on_known _ c.in_ok-bytes.bytes.items _ c.in_ok-bytes.ensures.bytes
    (exactly_misfit c.args.kind c.in_ok-bytes.bytes.items status _ a))
    c.complete_text.ensures.answer

pub returns-clause-statuses : goal.returns-clause-statuses
returns-clause-statuses g c = grind (arith, common_steps)
