use Rattle.monk_hall.proofs.NextTicketLaws.{granted_enters_next as law}
use Rattle.monk_hall.proofs.laws.granted_ticket_enters_next.Goals as goal

pub returns : goal.returns
returns c = law
