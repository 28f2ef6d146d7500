use Rattle.std.{specs.Prelude.Ok, specs.Prelude.Err, proofs.lemmas.Result.err_from_is_err_and}
use Rattle.monk_world.proofs.play.reading.read_play.Goals as goal
use Rattle.monk_world.proofs.PlayLaws.PlayText.{play_read, is_exact, is_fault, is_only}
use Rattle.monk_world.specs.declared.play.reading.TheConstants.{MOST_COMMANDS}

pub returns-in_err-head-clause-only : goal.returns-in_err-head-clause-only
returns-in_err-head-clause-only c =
    let p = err_from_is_err_and c.from_residual.result c.from_residual.ensures.1 in
    let fault = c.in_err-head.field-0.0 in
    rw (p.1, p.2) (λ h budget cs has le same. is_only MOST_COMMANDS c.args.bytes.now (Err fault) h budget cs has le same
    (λ other. is_fault MOST_COMMANDS c.args.bytes.now fault (c.in_err-head.ensures other)))

pub returns-clause-found : goal.returns-clause-found
returns-clause-found c =
    let found =
    play_read MOST_COMMANDS c.args.bytes.now c.in_ok-head.head c.in_ok-head.commands.items c.in_ok-head.ensures in
    (found.has_text, found.few, found.whole)

pub returns-clause-only : goal.returns-clause-only
returns-clause-only c =
    let head = c.in_ok-head.head in
    let commands = c.in_ok-head.commands in
    λ h budget cs has le same. is_only MOST_COMMANDS c.args.bytes.now (Ok (head.header, head.budget, commands)) h budget
    cs has le same (is_exact MOST_COMMANDS c.args.bytes.now head commands.items c.in_ok-head.ensures)
