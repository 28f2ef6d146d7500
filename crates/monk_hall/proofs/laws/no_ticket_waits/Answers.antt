use Rattle.monk_hall.proofs.NextTicketLaws.{no_ticket_waits as law}
use Rattle.monk_hall.proofs.laws.no_ticket_waits.Goals as goal

pub returns : goal.returns
returns c = law
