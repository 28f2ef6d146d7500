use Rattle.std.proofs.{lemmas.Result.IfOk-weaker, lemmas.Grind.common_steps, Common.arith}
use Rattle.monk_commands.proofs.tracing.trace_stream.Goals as goal
use Rattle.monk_commands.proofs.{Known.on_known, PlayExact.answer_of, PlayExact.exactly}
use Rattle.monk_commands.specs.Traced.{IsTraced}

pub returns-clause-played : goal.returns-clause-played
returns-clause-played g c =
    IfOk-weaker c.play_text.result _ _ (λ status a.
    on_known _ c.in_ok-bytes.bytes.items _ c.in_ok-bytes.ensures.bytes
    (exactly IsTraced c.in_ok-bytes.bytes.items status _ a))
    c.play_text.ensures.answer

pub returns-clause-traced : goal.returns-clause-traced
returns-clause-traced g c = grind (arith, common_steps, IfOk-weaker, on_known, answer_of)
