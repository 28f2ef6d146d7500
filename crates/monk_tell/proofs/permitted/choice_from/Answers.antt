use Rattle.std.proofs.Common.{◌∙◌, List, ap}
use Rattle.std.specs.Prelude.{filter}
use Rattle.monk_history.specs.{Meaning.Release.with_next, declared.event.Next.Next}
use Rattle.monk_audit.specs.Settled.{permits}
use Rattle.monk_tell.proofs.permitted.choice_from.Goals as goal
use Rattle.monk_tell.specs.Told.{chosen_from, lines_of}

pub returns : goal.returns
returns c o t lined stay =
    let q = lines_of c.args.lines.now in
    let may = c.in_ok-may.ensures
    ∙ ap (λ (xs : List Next). filter (λ x. permits c.args.rules q c.args.stays (with_next x c.args.event)) xs)
    (c.deref.ensures.value ∙ c.in_ok-nexts.ensures) in
    (λ i. record { fronts = c.in_ok-fronts.ensures i; may = may i })
    ∙ (λ i. chosen_from c.args.rules (lined i) (stay i) c.args.event)
