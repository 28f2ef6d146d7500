use Rattle.std.proofs.lemmas.{Result.err_from_is_err_and, Grind.common_steps}
use Rattle.std.proofs.Common.{sym, arith, rules}
use Rattle.monk_world.proofs.play.lines.PlayLines.check.Goals as goal
use Rattle.monk_world.proofs.PlayLaws.PlayText.{is_exact, is_fault, play_again, play_read}
use Rattle.monk_world.specs.declared.play.reading.TheConstants.{MOST_COMMANDS}

pub returns-in_err-lines-clause-only : goal.returns-in_err-lines-clause-only
returns-in_err-lines-clause-only c = grind (arith, common_steps, err_from_is_err_and, is_fault, play_again)

pub returns-clause-found : goal.returns-clause-found
returns-clause-found c =
    let lines = c.in_ok-lines.lines in
    let found = play_read MOST_COMMANDS c.args.bytes.now lines.0 lines.1 (sym c.in_ok-lines.ensures) in
    (found.has_text, found.few, found.whole)

pub returns-clause-only : goal.returns-clause-only
returns-clause-only c = search (rules, is_exact, play_again)
