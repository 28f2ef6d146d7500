use Rattle.monk_hall.proofs.GrantsTaken.{grants_come_in_turn as law}
use Rattle.monk_hall.proofs.laws.grants_come_in_turn.Goals as goal

pub returns : goal.returns
returns c = law
