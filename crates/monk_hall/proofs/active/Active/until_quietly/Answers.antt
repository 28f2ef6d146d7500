use Rattle.std.proofs.Common.{ap}
use Rattle.monk_hall.proofs.KindLaws.{automatic}
use Rattle.monk_hall.proofs.active.Active.until_quietly.Goals as goal

pub plain_until_quietly-requires-clause-mode : goal.plain_until_quietly-requires-clause-mode
plain_until_quietly-requires-clause-mode g c κs within =
    automatic g.K.Kind.rules g.K.Kind.MODE (ap (λ r. r.mode) g.K.Kind.are_rules)
    (g.met.K.Automatic g.world.𝓛 g.world.𝓜 g.world.𝓡 ((λ s x. x), (λ x. x), (λ x. x), λ x. x)).mode

pub returns : goal.returns
returns g c = c.plain_until_quietly.ensures
