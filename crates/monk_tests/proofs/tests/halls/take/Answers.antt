use Rattle.std.proofs.Common.{List, subst}
use Rattle.monk_hall.specs.Tokens.{Token, AreOf}
use Rattle.monk_tests.proofs.Seats.{last_is_of}
use Rattle.monk_tests.proofs.tests.halls.take.Goals as goal

pub returns-in-Some-clause-pass : goal.returns-in-Some-clause-pass
returns-in-Some-clause-pass g c =
    (last_is_of c.args.hall.now.id c.args.hall.now.setting c.pop.new.self.items c.in-Some.pass
    (subst (λ (ps : List Token). AreOf c.args.hall.now.id c.args.hall.now.setting ps) c.in-Some.ensures.items
    c.requires)).0

pub returns-in-Some-clause-rest : goal.returns-in-Some-clause-rest
returns-in-Some-clause-rest g c =
    (last_is_of c.args.hall.now.id c.args.hall.now.setting c.pop.new.self.items c.in-Some.pass
    (subst (λ (ps : List Token). AreOf c.args.hall.now.id c.args.hall.now.setting ps) c.in-Some.ensures.items
    c.requires)).1
