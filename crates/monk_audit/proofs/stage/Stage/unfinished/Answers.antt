use Rattle.std.proofs.Common.{◌∙◌}
use Rattle.monk_audit.proofs.PieceLaws.{owed_found, unfinished_found, unfinished_opening, unfinished_there}
use Rattle.monk_audit.proofs.stage.Stage.unfinished.Goals as goal

pub returns-in-Opening : goal.returns-in-Opening
returns-in-Opening c = λ x one some. rw c.in-Opening.is (unfinished_opening x one some)

pub returns-in-Found : goal.returns-in-Found
returns-in-Found c = λ x one some.
    rw c.in-Found.is (owed_found c.in-Found.field-0 c.in-Found.count c.in-Found.field-2 x
    ∙ unfinished_found c.in-Found.field-0 c.in-Found.count c.in-Found.field-2 x one some)

pub returns-in-Buffer : goal.returns-in-Buffer
returns-in-Buffer c = unfinished_there c.args.self.now c.in-Buffer.course c.in-Buffer.is
