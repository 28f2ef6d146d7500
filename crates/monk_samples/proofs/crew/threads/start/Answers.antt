use denote.Param.Send.{sendable}
use Rattle.std.proofs.Crossing.{crosses}
use Rattle.monk_samples.proofs.Crossing.{worker_send}
use Rattle.monk_samples.proofs.crew.threads.start.Goals as goal

pub spawn_with-started-requires-send-F : goal.spawn_with-started-requires-send-F
spawn_with-started-requires-send-F g c = λ κs h. search (sendable, crosses, worker_send) depth 40 fits 100000
