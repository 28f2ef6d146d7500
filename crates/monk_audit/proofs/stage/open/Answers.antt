use Rattle.std.proofs.lemmas.{Result.err_from_is_err_and, Grind.common_steps}
use Rattle.std.proofs.Common.{Result, Ok, subst, arith}
use Rattle.monk_history.specs.declared.text.fault.ReadFault.{ReadFault}
use Rattle.monk_history.specs.Text.{Heading, Pieces.IsHeadOf, Reading.header_at}
use Rattle.monk_audit.proofs.stage.open.Goals as goal
use Rattle.monk_audit.proofs.stage.open.Goals.{In_ok-header}
use Rattle.monk_audit.proofs.PieceLaws.{never_both, no_object, opened_from, refused_from}

pub returns-in_err-header-clause-fault : goal.returns-in_err-header-clause-fault
returns-in_err-header-clause-fault c =
    let p = err_from_is_err_and c.from_residual.result c.from_residual.ensures.1 in
    grind (arith, common_steps, refused_from, Result)

head_is : (c : In_ok-header) → IsHeadOf header_at c.args.bytes.now (Ok c.in_ok-header.field-0) c.in-Some.rest.now
head_is c =
    subst (λ (r : Result Heading ReadFault). IsHeadOf header_at c.args.bytes.now r c.in-Some.rest.now)
    c.in_ok-header.was
    c.in-Some.ensures

pub returns-in_err-stage-clause-fault : goal.returns-in_err-stage-clause-fault
returns-in_err-stage-clause-fault c =
    let p = err_from_is_err_and c.from_residual-in_err-stage.result c.from_residual-in_err-stage.ensures.1 in
    grind (arith, common_steps, never_both, no_object, head_is, In_ok-header)

pub returns-clause-step : goal.returns-clause-step
returns-clause-step c =
    let is = head_is (goal.at.returns-clause-step c).In_ok-header in (
      opened_from c.args.bytes.now c.in-Some.rest.now c.in_ok-header.field-0 c.in_ok-stage.stage is
          c.in_ok-stage.ensures.verdict,
      c.in_ok-stage.ensures.sound,
      c.in_ok-stage.ensures.left,
      λ none. c.in_ok-stage.ensures.spares
          (no_object c.args.bytes.now c.in-Some.rest.now c.in_ok-header.field-0 is none) c.in-Some.rest.now,
    )
