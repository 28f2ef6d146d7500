use Rattle.std.proofs.Common.{◌∙◌, [], Some, ap, arith, get_or, refl}
use Rattle.monk_kinds.specs.Names.{rules_named}
use Rattle.monk_history.specs.Meaning.{Monitor.monitor, Named.named_monitor}
use Rattle.monk_history.specs.declared.event.{Event.TheVariants.Enter, Via.TheVariants.Free}
use Rattle.monk_audit.specs.Replay.{replay_situation}
use Rattle.monk_tell.proofs.step.Step.behind.Goals as goal
use Rattle.monk_tell.proofs.{StepLaws.event_told, StepLaws.judged_before, StepLaws.next_allowed, TellLaws.in_range_fits}
use Rattle.monk_tell.specs.Steps.{step_by}

pub bounds-history-before : goal.bounds-history-before
bounds-history-before g c =
    judged_before c.args.history.header.now c.args.history.events.now c.args.history.verdict c.args.before
    c.args.history.judged c.requires.allowed

pub release_choice-requires-clause-fits : goal.release_choice-requires-clause-fits
release_choice-requires-clause-fits g c κs within =
    let h = c.args.history.header.now in
    let t = replay_situation c.args.replay.now (g.T.Guarded.state c.args.object.now) in
    in_range_fits (monitor c.rules_by_name-rules.result h.seats h.conds g.T.Guarded.meaning []) t
    (get_or c.args.history.events.now c.args.before (Enter 0 Free)) 0 _ _
    (next_allowed h c.args.history.events.now c.args.history.verdict c.args.before _ _ _ _ t c.args.history.judged
    c.requires.allowed c.requires.stands.stands (c.rules_by_name-rules.ensures ∙ ap rules_named c.kind.ensures) refl
    refl c.requires.named)
    (λ one. omega (arith, one)) g.T.Guarded.codes g.T.Guarded.predicates

pub returns-clause-step : goal.returns-clause-step
returns-clause-step g c =
    let h = c.args.history.header.now in
    let es = c.args.history.events.now in
    let e = get_or es c.args.before (Enter 0 Free) in
    let t = replay_situation c.args.replay.now (g.T.Guarded.state c.args.object.now) in
    let u = replay_situation c.carry_out.new.replay (g.T.Guarded.state c.carry_out.new.object) in
    let rules = c.rules_by_name-rules.ensures ∙ ap rules_named c.kind.ensures in
    (λ i. record { event = Some e; choice = c.in_ok-choice.ensures i; standing = c.in_ok-standing.ensures i })
    ∙ (λ i. step_by (monitor (rules i) h.seats h.conds (c.requires.named i) []) t e u)
    ∙ event_told (named_monitor h) es c.args.before t u c.requires.stands.stands c.in_ok-carry_out.ensures.stands
