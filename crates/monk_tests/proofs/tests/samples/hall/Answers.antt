use Rattle.std.proofs.Common.{List, subst, sym, ap}
use Rattle.monk_hall.specs.Tokens.{Token}
use Rattle.monk_hall.specs.declared.setting.Setting.{Setting}
use Rattle.monk_tests.specs.Passes.{AreSeats}
use Rattle.monk_tests.proofs.Seats.{tokens_are_seats}
use Rattle.monk_tests.proofs.tests.samples.hall.Goals as goal

pub returns : goal.returns
returns g c =
    let made = c.in_ok-make.field-0 in
    subst (λ (ps : List Token). AreSeats made.0.id ps) (sym c.in_ok-make.ensures.made.2)
    (tokens_are_seats made.0.id made.0.setting made.0.setting.seats 0
    (ap (λ (s : Setting). s.conds) c.in_ok-make.ensures.made.1))
