use Rattle.monk_history.proofs.MeaningLaws.AwaitedLaws.{the_predicate_holds as the_predicate_holds_lemma}
use Rattle.monk_history.proofs.laws.the_predicate_holds.Goals as goal

pub returns : goal.returns
returns c = the_predicate_holds_lemma
