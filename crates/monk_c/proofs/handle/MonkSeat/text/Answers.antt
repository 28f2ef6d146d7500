use Rattle.std.proofs.Common.{ap}
use Rattle.monk_c.specs.Lending.{with_has}
use Rattle.monk_c.proofs.handle.MonkSeat.text.Goals as goal

pub returns-clause-same : goal.returns-clause-same
returns-clause-same c = ap (with_has c.args.self.now) c.held.ensures.value
