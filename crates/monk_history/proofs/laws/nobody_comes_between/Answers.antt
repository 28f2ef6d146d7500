use Rattle.monk_history.proofs.MeaningLaws.BetweenLaws.{nobody_comes_between as nobody_comes_between_lemma, callers_last_kinds}
use Rattle.monk_history.proofs.laws.nobody_comes_between.Goals as goal

pub returns-clause-rule : goal.returns-clause-rule
returns-clause-rule c = nobody_comes_between_lemma

pub returns-clause-kinds : goal.returns-clause-kinds
returns-clause-kinds c = callers_last_kinds
