use Rattle.std.proofs.{Common.subst, Common.sym, Common.arith, lemmas.Grind.common_steps}
use Rattle.monk_c.proofs.deal.open.Goals as goal
use Rattle.monk_c.proofs.Dealing.{are_passes, as_many, is_made}
use Rattle.monk_c.specs.{Dealing.ArePasses, Stands.RoomView}

pub returns-in-Some-clause-made : goal.returns-in-Some-clause-made
returns-in-Some-clause-made g c =
    let made = c.in-Ok-make.ensures.made in
    grind (arith, common_steps, is_made)

pub returns-in-Some-clause-count : goal.returns-in-Some-clause-count
returns-in-Some-clause-count g c =
    let made = c.in-Ok-make.ensures.made in
    as_many c.args.numbers c.in-Ok-make.hall c.in-Ok.object c.max.result c.max.ensures c.in-Ok.ensures.within.1
    c.in-Ok.ensures.made made.0 made.1 c.in-Ok-make.passes.items made.2

pub returns-in-Some-clause-passes : goal.returns-in-Some-clause-passes
returns-in-Some-clause-passes g c =
    subst (λ (r : RoomView). ArePasses r c.in-Ok-make.passes.items) (sym c.in-Some.ensures)
    (are_passes (record { house = c.in-Ok-make.hall; flags = c.args.numbers.flags }) c.in-Ok-make.passes.items
    c.in-Ok-make.ensures.made.2)
