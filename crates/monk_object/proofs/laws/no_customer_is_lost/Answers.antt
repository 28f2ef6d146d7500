use Rattle.monk_object.proofs.Customers.{customers as law}
use Rattle.monk_object.proofs.laws.no_customer_is_lost.Goals as goal

pub returns : goal.returns
returns c = law
