use Rattle.std.proofs.{lemmas.Result.IfOk-weaker, lemmas.Grind.common_steps, Common.arith}
use Rattle.std.specs.Io.KnownBytes.{Appends}
use Rattle.monk_history.specs.Text.Device.{inner_of}
use Rattle.monk_commands.proofs.upgrading.upgrade_stream.Goals as goal
use Rattle.monk_commands.proofs.{Known.on_known, Upgrades.again, Upgrades.exactly, Upgrades.upgraded}

pub returns-clause-histories : goal.returns-clause-histories
returns-clause-histories g c =
    IfOk-weaker c.upgrade_text.result _ _ (λ status a.
    on_known _ c.in_ok-bytes.bytes.items _ c.in_ok-bytes.ensures.bytes
    (exactly status c.in_ok-bytes.bytes.items a.0))
    c.upgrade_text.ensures.answer

pub returns-clause-upgraded : goal.returns-clause-upgraded
returns-clause-upgraded g c =
    let puts =
    Appends (g.W.Write.contents (inner_of c.args.writer.now))
    (g.W.Write.contents (inner_of c.upgrade_text.new.writer)) in
    IfOk-weaker c.upgrade_text.result _ _ (λ status a.
    on_known _ c.in_ok-bytes.bytes.items _ c.in_ok-bytes.ensures.bytes (upgraded c.in_ok-bytes.bytes.items puts a.1))
    c.upgrade_text.ensures.answer

pub returns-clause-again : goal.returns-clause-again
returns-clause-again g c = grind (arith, common_steps, IfOk-weaker, again)

pub returns-clause-statuses : goal.returns-clause-statuses
returns-clause-statuses g c = grind (arith, common_steps)
