use Rattle.std.proofs.Common.{ap, ◌∙◌, arith}
use Rattle.std.proofs.lemmas.Grind.{common_steps}
use Rattle.monk_samples.proofs.running.outcome.Goals as goal
use Rattle.monk_samples.{specs.Totals.totals_of, proofs.RunLaws.law_here, proofs.RunLaws.outcome_of}

pub totals_of-totals-requires-clause-law : goal.totals_of-totals-requires-clause-law
totals_of-totals-requires-clause-law g c =
    law_here g.K.Kind.rules c.args.rota.scenario c.args.rota.seats c.args.rota.rounds c.args.history.items
    c.deref.result.now c.deref.ensures.value c.requires

pub returns-clause-totals : goal.returns-clause-totals
returns-clause-totals g c = grind (arith, common_steps)

pub returns-clause-outcome : goal.returns-clause-outcome
returns-clause-outcome g c =
    outcome_of g.K.Kind.rules g.K.Kind.NAME c.args.rota.scenario c.args.rota.seats c.args.rota.rounds c.header_of.result
    c.args.history.items c.totals_of-totals.result c.args.rota.seats_in_range.1 c.args.rota.rounds_in_range.1
    g.K.Kind.are_named
    c.requires c.header_of.ensures
    (c.totals_of-totals.ensures ∙ ap (totals_of c.args.rota.scenario.sample) c.deref.ensures.value)
