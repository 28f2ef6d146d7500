use Rattle.monk_object.proofs.FirstInFirstOut.{first_in_first_out as law}
use Rattle.monk_object.proofs.laws.first_in_first_out.Goals as goal

pub returns : goal.returns
returns c = law
