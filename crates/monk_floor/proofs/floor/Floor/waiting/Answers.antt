use Rattle.std.proofs.Common.{◌∙◌, ap, length}
use Rattle.monk_history.specs.Meaning.Conditions.{condition}
use Rattle.monk_floor.specs.View.{FloorView}
use Rattle.monk_floor.proofs.floor.Floor.waiting.Goals as goal

pub returns : goal.returns
returns g c =
    c.waiting.ensures ∙ (ap (λ t. length (t.condition c.args.cond)) c.self.invariant.stands
    ∙ ap (λ (f : FloorView). length (condition c.args.cond f.history)) c.self.view_is)
