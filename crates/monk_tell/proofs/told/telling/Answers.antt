use Rattle.std.proofs.Common.{◌∙◌, ℕ, ap, arith, sym, take}
use Rattle.std.proofs.lemmas.{List.length-take-le, Grind.common_steps}
use Rattle.monk_kinds.specs.Names.{rules_named}
use Rattle.monk_history.specs.Meaning.Acts.{refused_steps}
use Rattle.monk_tell.proofs.told.telling.Goals as goal
use Rattle.monk_tell.{proofs.StepLaws.judged_there, specs.Told.shown_standing, specs.Told.told_steps}

pub slice_bounds-past-end : goal.slice_bounds-past-end
slice_bounds-past-end g c =
    sym (length-take-le c.allowed_events.result c.args.history.events.now
    (judged_there c.args.history.header.now c.args.history.events.now c.args.history.verdict c.allowed_events.result
    c.args.history.judged (omega (arith, c.allowed_events.ensures))))

pub returns : goal.returns
returns g c =
    let h = c.args.history.header.now in
    let es = c.args.history.events.now in
    let rules = c.rules_by_name-rules.ensures ∙ ap rules_named c.kind.ensures in
    let stands = c.in_ok-standing.ensures
    ∙ (λ i. shown_standing (rules i).mode h.seats h.conds (c.requires.named i) (c.requires.stands.stands i)) in
    let refused = c.in_ok-refused.ensures
    ∙ ap (λ (n : ℕ). told_steps (refused_steps (take n es))) c.allowed_events.ensures in
    grind (arith, common_steps)
