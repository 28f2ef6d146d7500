use Rattle.std.proofs.{Common.arith, lemmas.Grind.common_steps}
use Rattle.monk_hall.proofs.excluding.never_two_active.Goals as goal

pub never-requires-clause-tables : goal.never-requires-clause-tables
never-requires-clause-tables g c κs within = grind (arith, common_steps)

pub never-requires-clause-first : goal.never-requires-clause-first
never-requires-clause-first g c κs within = (c.a.invariant.one, c.a.invariant.active)

pub never-requires-clause-second : goal.never-requires-clause-second
never-requires-clause-second g c κs within = (c.b.invariant.one, c.b.invariant.active)
