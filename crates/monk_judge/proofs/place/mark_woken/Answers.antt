use Rattle.std.proofs.{Common.get_or-set_same, Common.get_or-set_other, Common.arith, lemmas.Grind.common_steps}
use borrow.Author.Count.{below_more}
use Rattle.monk_judge.proofs.place.mark_woken.Goals as goal

pub loop-place-preserved : goal.loop-place-preserved
loop-place-preserved c =
    let i = c.loop-place.place-index in
    let places = c.loop-place.places in
    let place = c.woken.result in
    let so_far = c.loop-place.invariant in
    grind (arith, common_steps, below_more, get_or-set_other, get_or-set_same)
