use Rattle.std.proofs.{Common.ap, Common.arith, lemmas.Grind.common_steps}
use Rattle.monk_hall.specs.declared.setting.Setting.{Setting}
use Rattle.monk_c.proofs.deal.headed.Goals as goal

pub invariant_of-result : goal.invariant_of-result
invariant_of-result g c = record {
  few = c.requires.few;
  opening = ap (λ (s : Setting). s.opening) c.requires.setting;
  headed = grind (arith, common_steps);
  writable = c.upgraded.ensures.all;
}
