use mathlib.Core.Logic.{inl, inr}
use Rattle.std.proofs.Common.{◌∙◌, sym}
use Rattle.std.proofs.lemmas.Result.{err_from_is_err_and}
use Rattle.monk_audit.proofs.PieceLaws.{faulty_end, gives_same, whole_ended, whole_unfinished}
use Rattle.monk_audit.proofs.stage.Stage.end.Goals as goal

pub returns-in_err-rest-clause-verdict : goal.returns-in_err-rest-clause-verdict
returns-in_err-rest-clause-verdict c =
    let p = err_from_is_err_and c.from_residual.result c.from_residual.ensures.1 in
    rw (p.1, p.2) (λ n. faulty_end c.args.self c.args.bytes.now c.in_err-rest.field-0.0
    (c.in_err-rest.ensures.fault (inl n)))

pub returns-in_err-rest-clause-none : goal.returns-in_err-rest-clause-none
returns-in_err-rest-clause-none c =
    let p = err_from_is_err_and c.from_residual.result c.from_residual.ensures.1 in
    rw (p.1, p.2) (λ none. sym (faulty_end c.args.self c.args.bytes.now c.in_err-rest.field-0.0
    (c.in_err-rest.ensures.fault (inr none))))

pub returns-then-is_empty-clause-verdict : goal.returns-then-is_empty-clause-verdict
returns-then-is_empty-clause-verdict c =
    gives_same c.found.result _
    (whole_ended c.found.result c.args.self c.judge.new.self c.args.bytes.now c.in_ok-rest.rest.now
    c.in_ok-rest.ensures.step
    (sym c.is_empty.ensures ∙ c.if-is_empty.true) c.found.ensures)

pub returns-then-is_empty-clause-none : goal.returns-then-is_empty-clause-none
returns-then-is_empty-clause-none c = λ _.
    whole_ended c.found.result c.args.self c.judge.new.self c.args.bytes.now c.in_ok-rest.rest.now
    c.in_ok-rest.ensures.step
    (sym c.is_empty.ensures ∙ c.if-is_empty.true) c.found.ensures

pub returns-clause-verdict : goal.returns-clause-verdict
returns-clause-verdict c = λ _.
    whole_unfinished c.args.self c.judge.new.self c.args.bytes.now c.in_ok-rest.rest.now c.unfinished.result
    c.in_ok-rest.ensures.step c.in_ok-rest.ensures.ended
    (sym c.is_empty.ensures ∙ c.if-is_empty.false) c.unfinished.ensures

pub returns-clause-none : goal.returns-clause-none
returns-clause-none c = λ _.
    sym (whole_unfinished c.args.self c.judge.new.self c.args.bytes.now c.in_ok-rest.rest.now c.unfinished.result
    c.in_ok-rest.ensures.step c.in_ok-rest.ensures.ended
    (sym c.is_empty.ensures ∙ c.if-is_empty.false) c.unfinished.ensures)
