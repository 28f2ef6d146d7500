use Rattle.monk_history.proofs.MeaningLaws.LegalLaws.{stays_where_it_holds, untils_are}
use Rattle.monk_history.proofs.laws.untils_were_false.Goals as goal

pub returns-clause-queue : goal.returns-clause-queue
returns-clause-queue c = untils_are

pub returns-clause-each : goal.returns-clause-each
returns-clause-each c = stays_where_it_holds
