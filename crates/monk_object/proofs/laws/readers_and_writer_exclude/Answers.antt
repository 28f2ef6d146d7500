use Rattle.monk_object.proofs.Exclusive.{exclusive as law}
use Rattle.monk_object.proofs.laws.readers_and_writer_exclude.Goals as goal

pub returns : goal.returns
returns c = law
