use Rattle.std.proofs.{Common.None, lemmas.List.get_or-replicate}
use Rattle.monk_judge.proofs.passed.Passed.begin_no_visit.Goals as goal

pub returns-clause-passing : goal.returns-clause-passing
returns-clause-passing c = λ j lt. get_or-replicate 256 j None None lt
