use Rattle.std.proofs.Common.{◌∙◌, ap, subst}
use Rattle.std.proofs.lemmas.Result.{IfOk-weaker}
use Rattle.clap.specs.Words.{app_of, is_simple}
use Rattle.monk_commands.proofs.words.line.Goals as goal
use Rattle.monk_commands.{specs.Request.IsAsked, proofs.Requests.monk_is_simple}

pub returns-in-Ok : goal.returns-in-Ok
returns-in-Ok c =
    let monk = c.in_ok-monk.ensures in
    let simple = ap is_simple monk.is
    ∙ monk_is_simple monk.kinds monk.samples in
    IfOk-weaker c.asked.result _ _
    (λ l asked. (app_of c.in_ok-monk.field-0, (monk, subst (IsAsked l) (c.in-Ok.ensures.matches simple).1 asked)))
    c.asked.ensures
