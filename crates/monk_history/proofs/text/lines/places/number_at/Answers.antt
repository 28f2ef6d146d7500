use Rattle.std.proofs.Common.{refl, arith, ◌+◌}
use Rattle.monk_history.proofs.TextLaws.PlaceLaws.{number_begins, number_goes_on, digits_grow, digits_few}
use Rattle.monk_history.proofs.text.lines.places.number_at.Goals as goal
use Rattle.std.proofs.lemmas.Grind.{common_steps}

pub loop-count-init : goal.loop-count-init
loop-count-init c = grind (arith, common_steps, number_begins)

pub overflow_mul-number : goal.overflow_mul-number
overflow_mul-number c =
    omega (arith, digits_few c.loop-count.number c.loop-count.count c.loop-count.invariant.within (omega arith))

pub overflow_add-number : goal.overflow_add-number
overflow_add-number c =
    omega (
      arith,
      digits_few c.loop-count.number c.loop-count.count c.loop-count.invariant.within (omega arith),
      c.from.ensures,
      c.if-not-is_ascii_digit-2.ensures.cases,
    )

pub loop-count-preserved : goal.loop-count-preserved
loop-count-preserved c =
    let digit = c.if-not-is_ascii_digit-2.ensures.cases in
    let few = digits_few c.loop-count.number c.loop-count.count c.loop-count.invariant.within (omega arith) in
    record {
      so_far =
          number_goes_on c.args.bytes.now c.args.place (c.args.place + c.loop-count.count) _ c.loop-count.number _ _
          c.loop-count.invariant.so_far (omega arith) refl digit c.if-number-eq0.false (omega (arith, few))
          (omega arith)
          (omega (arith, c.from.ensures));
      within = digits_grow c.loop-count.number c.from.result c.loop-count.count c.loop-count.invariant.within
          (omega (arith, c.from.ensures, digit));
    }
