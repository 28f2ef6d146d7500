use Rattle.monk_samples.proofs.shop.barber_turn.Goals as goal

pub returns : goal.returns
returns g c = c.take_turn.ensures
