use Rattle.std.proofs.Common.{ap}
use Rattle.monk_tests.proofs.tests.halls.client.no_two_are_active.Goals as goal

pub returns : goal.returns
returns c k o setting s h r q x y one other apart =
    apart (ap (λ w. w.seat) (c.one_is_active.ensures.active k o setting s h r q x y one other).0)
