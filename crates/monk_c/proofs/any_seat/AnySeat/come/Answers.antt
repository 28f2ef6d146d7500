use Rattle.std.proofs.Common.{rules}
use Rattle.monk_kinds.specs.declared.name.KindName.TheVariants as kind
use Rattle.monk_c.proofs.Coming.{comes_at}
use Rattle.monk_c.proofs.any_seat.AnySeat.come.Goals as goal

pub returns-in-Pb-clause-come : goal.returns-in-Pb-clause-come
returns-in-Pb-clause-come c = comes_at kind.Pb _ _ _ _ _ c.in-Pb.is (search rules) c.come.ensures.come

pub returns-in-Npb-clause-come : goal.returns-in-Npb-clause-come
returns-in-Npb-clause-come c = comes_at kind.Npb _ _ _ _ _ c.in-Npb.is (search rules) c.come-in-Npb.ensures.come

pub returns-in-Pnb-clause-come : goal.returns-in-Pnb-clause-come
returns-in-Pnb-clause-come c = comes_at kind.Pnb _ _ _ _ _ c.in-Pnb.is (search rules) c.come-in-Pnb.ensures.come

pub returns-in-Npnb-clause-come : goal.returns-in-Npnb-clause-come
returns-in-Npnb-clause-come c = comes_at kind.Npnb _ _ _ _ _ c.in-Npnb.is (search rules) c.come-in-Npnb.ensures.come

pub returns-in-Pqb-clause-come : goal.returns-in-Pqb-clause-come
returns-in-Pqb-clause-come c = comes_at kind.Pqb _ _ _ _ _ c.in-Pqb.is (search rules) c.come-in-Pqb.ensures.come

pub returns-in-Npqb-clause-come : goal.returns-in-Npqb-clause-come
returns-in-Npqb-clause-come c = comes_at kind.Npqb _ _ _ _ _ c.in-Npqb.is (search rules) c.come-in-Npqb.ensures.come

pub returns-in-Pir-clause-come : goal.returns-in-Pir-clause-come
returns-in-Pir-clause-come c = comes_at kind.Pir _ _ _ _ _ c.in-Pir.is (search rules) c.come-in-Pir.ensures.come

pub returns-in-Npir-clause-come : goal.returns-in-Npir-clause-come
returns-in-Npir-clause-come c = comes_at kind.Npir _ _ _ _ _ c.in-Npir.is (search rules) c.come-in-Npir.ensures.come

pub returns-in-Pis-clause-come : goal.returns-in-Pis-clause-come
returns-in-Pis-clause-come c = comes_at kind.Pis _ _ _ _ _ c.in-Pis.is (search rules) c.come-in-Pis.ensures.come

pub returns-in-Npis-clause-come : goal.returns-in-Npis-clause-come
returns-in-Npis-clause-come c = comes_at kind.Npis _ _ _ _ _ c.in-Npis.is (search rules) c.come-in-Npis.ensures.come
