use Rattle.monk_judge.proofs.judge.Judge.broadcast.Goals as goal
use Rattle.monk_judge.proofs.Naming.{all_names, nobody_names}
use Rattle.std.proofs.{lemmas.Grind.common_steps, Common.arith}

pub returns-then-many-eq0 : goal.returns-then-many-eq0
returns-then-many-eq0 g c = λ e. record {
  stands = c.in_ok-may_signal.ensures;
  right = tt;
  earliest = tt;
  leads = c.wake.ensures.state;
  setting = c.wake.ensures.setting g.T.Guarded.meaning;
  ends = c.wake.ensures.ends;
  names = grind (arith, common_steps, nobody_names);
}

pub returns : goal.returns
returns g c = λ e. record {
  stands = c.in_ok-may_signal.ensures;
  right = tt;
  earliest = tt;
  leads = c.wake.ensures.state;
  setting = c.wake.ensures.setting g.T.Guarded.meaning;
  ends = c.wake.ensures.ends;
  names = grind (arith, common_steps, all_names);
}
