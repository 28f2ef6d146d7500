use Rattle.monk_samples.proofs.PublicLaws.{threads}
use Rattle.monk_tests.proofs.tests.samples.crowds.all_work.Goals as goal

pub map_vec-requires-sync-F : goal.map_vec-requires-sync-F
map_vec-requires-sync-F g c κs within = search threads depth 20
