-- A header that has a floor's numbers names its monitor
use Rattle.monk_floor.specs.Headed.{LegalAsHeaded}

pub legal_as_headed : LegalAsHeaded
legal_as_headed h f history of legal = rw (of.opening, of.seats, of.conds) at legal
