use Rattle.std.proofs.{Common.arith, lemmas.Grind.common_steps}
use Rattle.monk_history.proofs.text.header.Header.upgraded.Goals as goal
use Rattle.monk_history.proofs.TextLaws.Upgrading.{all_writable}

pub returns-then-self-ge-ALL_EVENTS_VERSION-clause-all : goal.returns-then-self-ge-ALL_EVENTS_VERSION-clause-all
returns-then-self-ge-ALL_EVENTS_VERSION-clause-all c = grind (arith, common_steps, all_writable)

pub returns-clause-all : goal.returns-clause-all
returns-clause-all c = grind (arith, common_steps, all_writable)
