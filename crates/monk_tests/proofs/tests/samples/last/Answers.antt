use Rattle.std.proofs.Common.{List, subst}
use Rattle.monk_hall.specs.Tokens.{Token}
use Rattle.monk_tests.specs.Passes.{AreSeats}
use Rattle.monk_tests.proofs.Seats.{last_is_seat}
use Rattle.monk_tests.proofs.tests.samples.last.Goals as goal

pub returns-in-Some-clause-pass : goal.returns-in-Some-clause-pass
returns-in-Some-clause-pass g c =
    (last_is_seat c.args.hall.now.id c.pop.new.self.items c.in-Some.pass
    (subst (λ (ps : List Token). AreSeats c.args.hall.now.id ps) c.in-Some.ensures.items c.requires)).0

pub returns-in-Some-clause-rest : goal.returns-in-Some-clause-rest
returns-in-Some-clause-rest g c =
    (last_is_seat c.args.hall.now.id c.pop.new.self.items c.in-Some.pass
    (subst (λ (ps : List Token). AreSeats c.args.hall.now.id ps) c.in-Some.ensures.items c.requires)).1
