use Rattle.monk_world.proofs.DrawnLaws.{tickets_enter_in_order}
use Rattle.monk_world.proofs.RecordLaws.{steps_are_taken, runs_are_recorded as law}
use Rattle.monk_world.proofs.laws.runs_are_recorded.Goals as goal

pub returns : goal.returns
returns c = record { taken = steps_are_taken; recorded = law; tickets = tickets_enter_in_order }
