use Rattle.monk_samples.proofs.shop.sit_and_cut.Goals as goal

pub returns : goal.returns
returns g c = c.have_cut.ensures
