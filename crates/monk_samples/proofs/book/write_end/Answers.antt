use Rattle.monk_samples.proofs.book.write_end.Goals as goal

pub returns : goal.returns
returns g c = c.end_write.ensures
