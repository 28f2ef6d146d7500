use Rattle.std.proofs.Common.{◌+◌, ◌∙◌, ap, arith, refl, rules}
use Rattle.std.proofs.lemmas.{List.length-set, Grind.common_steps}
use Rattle.monk_logs.proofs.crossed.last_numbers.Goals as goal
use Rattle.monk_logs.proofs.CrossedLaws.{nothing_last, numbers_more}

pub loop-line-init : goal.loop-line-init
loop-line-init c = record { number = refl; sized = refl; last = nothing_last 256 }

pub loop-line-preserved : goal.loop-line-preserved
loop-line-preserved c = record {
  number = ap (λ n. n + 1) c.loop-line.invariant.number;
  sized = length-set c.loop-line.numbers c.from.result _ ∙ c.loop-line.invariant.sized;
  last = grind (arith, common_steps, numbers_more, rules);
}
