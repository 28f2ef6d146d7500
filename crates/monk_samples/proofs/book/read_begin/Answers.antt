use Rattle.monk_samples.proofs.book.read_begin.Goals as goal

pub returns : goal.returns
returns g c = c.begin_read.ensures
