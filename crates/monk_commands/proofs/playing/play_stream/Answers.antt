use Rattle.std.proofs.{lemmas.Result.IfOk-weaker, Common.rules}
use Rattle.monk_commands.proofs.playing.play_stream.Goals as goal
use Rattle.monk_commands.proofs.{Known.on_known, PlayExact.answer_of, PlayExact.exactly}
use Rattle.monk_commands.specs.Played.{IsPlayed}

pub returns-clause-played : goal.returns-clause-played
returns-clause-played g c =
    IfOk-weaker c.play_text.result _ _ (λ status a.
    on_known _ c.in_ok-bytes.bytes.items _ c.in_ok-bytes.ensures.bytes
    (exactly IsPlayed c.in_ok-bytes.bytes.items status _ a))
    c.play_text.ensures.answer

pub returns-clause-history : goal.returns-clause-history
returns-clause-history g c = search (rules, IfOk-weaker, on_known, answer_of)
