use Rattle.monk_history.proofs.MeaningLaws.HandOverLaws.{hoares_rule as hoares_rule_lemma, hands_over_kinds}
use Rattle.monk_history.proofs.laws.hoares_rule.Goals as goal

pub returns-clause-rule : goal.returns-clause-rule
returns-clause-rule c = hoares_rule_lemma

pub returns-clause-kinds : goal.returns-clause-kinds
returns-clause-kinds c = hands_over_kinds
