use Rattle.std.proofs.{Common.None, lemmas.List.get_or-replicate}
use Rattle.monk_judge.proofs.passed.Passed.nobody.Goals as goal

pub returns-clause-passing : goal.returns-clause-passing
returns-clause-passing c = λ j lt. get_or-replicate 256 j None None lt

pub returns-clause-seats : goal.returns-clause-seats
returns-clause-seats c = λ j lt. get_or-replicate 256 j None None lt
