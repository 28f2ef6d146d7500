use Rattle.monk_samples.proofs.buffer.put.Goals as goal

pub returns : goal.returns
returns g c = c.put_into.ensures
