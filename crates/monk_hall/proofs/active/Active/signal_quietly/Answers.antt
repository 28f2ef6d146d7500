use Rattle.std.proofs.Common.{ap}
use Rattle.monk_hall.proofs.KindLaws.{explicit}
use Rattle.monk_hall.proofs.active.Active.signal_quietly.Goals as goal

pub plain_signal_quietly-requires-clause-mode : goal.plain_signal_quietly-requires-clause-mode
plain_signal_quietly-requires-clause-mode g c κs within =
    explicit g.K.Kind.rules g.K.Kind.MODE (ap (λ r. r.mode) g.K.Kind.are_rules)
    (g.met.K.Conditional g.world.𝓛 g.world.𝓜 g.world.𝓡 ((λ s x. x), (λ x. x), (λ x. x), λ x. x)).not_automatic
    (g.met.K.Explicit g.world.𝓛 g.world.𝓜 g.world.𝓡 ((λ s x. x), (λ x. x), (λ x. x), λ x. x)).not_immediate

pub returns : goal.returns
returns g c = c.plain_signal_quietly.ensures
