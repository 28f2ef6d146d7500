use Rattle.monk_hall.proofs.NextTicketLaws.{next_ticket_waits as law}
use Rattle.monk_hall.proofs.laws.next_ticket_waits.Goals as goal

pub returns : goal.returns
returns c = law
