use Rattle.std.proofs.Common.{[]}
use Rattle.monk_tell.proofs.lines.inner_queues.Goals as goal

pub returns : goal.returns
returns c = record {
  waiters = c.in_ok-waiters.ensures [];
  signallers = c.in_ok-signallers.ensures [];
  untils = c.in_ok-untils.ensures [];
}
