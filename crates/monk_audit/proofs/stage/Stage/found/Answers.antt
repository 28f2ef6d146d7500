use Rattle.std.proofs.Common.{◌∙◌, [], sym}
use Rattle.monk_audit.proofs.PieceLaws.{end_found, end_opening, legal_there, owed_found}
use Rattle.monk_audit.proofs.stage.Stage.found.Goals as goal

pub returns-in-Opening : goal.returns-in-Opening
returns-in-Opening c = rw c.in-Opening.is (sym end_opening)

pub returns-in-Found : goal.returns-in-Found
returns-in-Found c =
    rw c.in-Found.is (sym (owed_found c.in-Found.field-0 c.in-Found.field-1 c.in-Found.found []
    ∙ end_found c.in-Found.field-0 c.in-Found.field-1 c.in-Found.found))

pub returns-in-Buffer : goal.returns-in-Buffer
returns-in-Buffer c = legal_there c.args.self.now c.in-Buffer.course c.in-Buffer.is
