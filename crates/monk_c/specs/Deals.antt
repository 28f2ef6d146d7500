-- A new hall of any kind
use Rattle.monk_kinds.specs.declared.name.KindName.{KindName}
use Rattle.monk_kinds.specs.declared.name.KindName.TheVariants as kind
use Rattle.monk_c.specs.Dealing.{DealView}
use Rattle.monk_c.specs.declared.any_deal.AnyDeal.{AnyDeal}
use Rattle.monk_c.specs.declared.any_deal.AnyDeal.TheVariants.{Pb, Npb, Pnb, Npnb, Pqb, Npqb, Pir, Npir, Pis, Npis}

-- the kind of a new hall, and the hall
abbrev pub kind_dealt : AnyDeal → KindName
kind_dealt (Pb d) = kind.Pb
kind_dealt (Npb d) = kind.Npb
kind_dealt (Pnb d) = kind.Pnb
kind_dealt (Npnb d) = kind.Npnb
kind_dealt (Pqb d) = kind.Pqb
kind_dealt (Npqb d) = kind.Npqb
kind_dealt (Pir d) = kind.Pir
kind_dealt (Npir d) = kind.Npir
kind_dealt (Pis d) = kind.Pis
kind_dealt (Npis d) = kind.Npis

-- the deal of any kind
abbrev pub deal_in : AnyDeal → DealView
deal_in (Pb d) = d
deal_in (Npb d) = d
deal_in (Pnb d) = d
deal_in (Npnb d) = d
deal_in (Pqb d) = d
deal_in (Npqb d) = d
deal_in (Pir d) = d
deal_in (Npir d) = d
deal_in (Pis d) = d
deal_in (Npis d) = d
