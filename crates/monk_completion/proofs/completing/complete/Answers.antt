use Rattle.std.proofs.{Common.sym, Common.subst, lemmas.Result.IfOk-weaker}
use Rattle.monk_completion.proofs.completing.complete.Goals as goal
use Rattle.monk_completion.proofs.Exactly.{kind_fits, kind_misfits}
use Rattle.monk_completion.specs.Verdict.{FitsExactly, MisfitsExactly, log_monitor}

pub returns-clause-fits : goal.returns-clause-fits
returns-clause-fits c =
    IfOk-weaker c.complete_named.result _ _
    (λ x found. subst (FitsExactly (log_monitor c.args.kind c.args.header.now) c.args.lines.now) (sym found.0)
    (kind_fits c.args.kind c.args.header.now c.args.lines.now)) c.complete_named.ensures.found

pub returns-clause-misfit : goal.returns-clause-misfit
returns-clause-misfit c =
    IfOk-weaker c.complete_named.result _ _
    (λ x found. subst (MisfitsExactly (log_monitor c.args.kind c.args.header.now) c.args.lines.now) (sym found.0)
    (kind_misfits c.args.kind c.args.header.now c.args.lines.now)) c.complete_named.ensures.found
