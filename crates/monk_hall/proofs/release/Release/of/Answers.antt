use Rattle.monk_hall.proofs.release.Release.of.Goals as goal

pub returns : goal.returns
returns g c = record { holds = c.active.invariant; was = c.active.view_is }
