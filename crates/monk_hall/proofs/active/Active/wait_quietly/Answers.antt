use Rattle.std.proofs.Common.{ap}
use Rattle.monk_hall.proofs.KindLaws.{conditional}
use Rattle.monk_hall.proofs.active.Active.wait_quietly.Goals as goal

pub plain_wait_quietly-requires-clause-mode : goal.plain_wait_quietly-requires-clause-mode
plain_wait_quietly-requires-clause-mode g c κs within =
    conditional g.K.Kind.rules g.K.Kind.MODE (ap (λ r. r.mode) g.K.Kind.are_rules)
    (g.met.K.Conditional g.world.𝓛 g.world.𝓜 g.world.𝓡 ((λ s x. x), (λ x. x), (λ x. x), λ x. x)).not_automatic

pub returns : goal.returns
returns g c = c.plain_wait_quietly.ensures
