use Rattle.std.proofs.Common.{List, sym, subst}
use Rattle.monk_history.specs.{Meaning.Legal.IsLegal, Meaning.Named.named_monitor, declared.event.Event.Event}
use Rattle.monk_commands.proofs.running.audited_run.Goals as goal

pub audited-requires-clause-legal : goal.audited-requires-clause-legal
audited-requires-clause-legal c =
    subst (λ (h : List Event). IsLegal (named_monitor c.args.outcome.now.header) h) (sym c.deref.ensures.value)
    c.requires.1.legal
