use Rattle.std.proofs.Common.{List, subst, sym}
use Rattle.monk_hall.specs.Tokens.{Token, AreOf}
use Rattle.monk_tests.proofs.Seats.{tokens_are_of}
use Rattle.monk_tests.proofs.tests.halls.hall.Goals as goal

pub returns-clause-passes : goal.returns-clause-passes
returns-clause-passes g c =
    let made = c.in_ok-make.field-0 in
    subst (λ (ps : List Token). AreOf made.0.id made.0.setting ps) (sym c.in_ok-make.ensures.made.2)
    (tokens_are_of made.0.id made.0.setting made.0.setting.seats 0)
