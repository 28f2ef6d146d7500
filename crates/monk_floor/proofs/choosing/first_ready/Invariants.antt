use Rattle.std.proofs.Common.{◌≡◌}
use Rattle.std.specs.Prelude.{slice_get}
use Rattle.monk_floor.proofs.WaitLaws.{none_ready}
use Rattle.monk_floor.proofs.choosing.first_ready.Given as goal

abbrev pub invariant-loop : goal.invariant-loop
invariant-loop g l = record {
  here : l.wait ≡ slice_get l.queues.untils l.counter;
  none : none_ready g.T.Guarded.meaning (g.T.Guarded.state l.object) l.queues.untils l.counter;
}
