use Rattle.std.proofs.Common.{ap}
use Rattle.monk_hall.proofs.KindLaws.{immediate}
use Rattle.monk_hall.proofs.active.Active.signal_leave_quietly.Goals as goal

pub plain_signal_leave_quietly-requires-clause-mode : goal.plain_signal_leave_quietly-requires-clause-mode
plain_signal_leave_quietly-requires-clause-mode g c κs within =
    immediate g.K.Kind.rules g.K.Kind.MODE (ap (λ r. r.mode) g.K.Kind.are_rules)
    (g.met.K.ImmediateReturn g.world.𝓛 g.world.𝓜 g.world.𝓡 ((λ s x. x), (λ x. x), (λ x. x), λ x. x)).mode

pub returns : goal.returns
returns g c = c.plain_signal_leave_quietly.ensures
