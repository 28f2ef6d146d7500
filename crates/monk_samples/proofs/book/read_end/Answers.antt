use Rattle.monk_samples.proofs.book.read_end.Goals as goal

pub returns : goal.returns
returns g c = c.end_read.ensures
