use Rattle.std.proofs.Common.{◌∙◌, ap, filter, not}
use Rattle.monk_history.specs.Meaning.Untils.{chooses}
use Rattle.monk_floor.specs.Queues.{queue_at}
use Rattle.monk_floor.proofs.ShownLaws.{others_left, wait_left, no_wait_left}
use Rattle.monk_floor.proofs.queues.Queues.drop_chosen.Goals as goal

pub returns-in-Some-clause-conditions : goal.returns-in-Some-clause-conditions
returns-in-Some-clause-conditions c d =
    others_left c.self.inside.links c.remove.new.self c.remove.ensures.others d
    ∙ ap (λ q. queue_at q.conditions d) c.self.view_is

pub returns-in-Some-clause-untils : goal.returns-in-Some-clause-untils
returns-in-Some-clause-untils c =
    wait_left c.args.event c.in-Some.seat c.self.inside.predicates c.self.inside.links c.remove.new.self
    c.in-Some.ensures
    c.remove.ensures.removed
    ∙ ap (λ q. filter (λ w. not (chooses c.args.event w)) q.untils) c.self.view_is

pub returns-in_default-clause-untils : goal.returns-in_default-clause-untils
returns-in_default-clause-untils c = no_wait_left c.args.event c.args.self.now.untils c.in_default.ensures
