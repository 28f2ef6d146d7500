use Rattle.monk_samples.proofs.PublicLaws.{threads}
use Rattle.monk_tests.proofs.tests.samples.later_members.putter_waits_for_the_taker.Goals as goal

pub join-done-requires-send-F : goal.join-done-requires-send-F
join-done-requires-send-F g c κs within = search threads depth 20
