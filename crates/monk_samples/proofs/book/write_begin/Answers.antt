use Rattle.monk_samples.proofs.book.write_begin.Goals as goal

pub returns : goal.returns
returns g c = c.begin_write.ensures
