use Rattle.monk_hall.proofs.WordWaits.{one_waits_at_a_word as law}
use Rattle.monk_hall.proofs.laws.one_waits_at_a_word.Goals as goal

pub returns : goal.returns
returns c = law
